use Rattle.std.proofs.Common.{◌≢◌, ℕ, ◌+◌, ◌<◌, length, get_or, rules}
use Rattle.tx_lines.proofs.FirstWord.{parts_at-found}
use Rattle.tx_lines.proofs.read.search.find_by_eight.Goals as goal

pub returns-then-others-lt8-clause-place : goal.returns-then-others-lt8-clause-place
returns-then-others-lt8-clause-place c =
    let at = c.args.from + c.others-others.result in
    let none : (k : ℕ) → k < at → get_or c.args.text.now k 0 ≢ c.args.mark = search (rules, c.requires.before, c.others-others.ensures.before) in
    let inside : at < length c.args.text.now = search rules in
    parts_at-found c.args.mark c.args.text.now at none inside (c.others-others.ensures.first c.if-others-lt8.true)
