use Rattle.std.proofs.Common.{◌<◌, List, ℕ, ◌∷◌, [], length, ap, sym, ◌∙◌, rules}
use Rattle.tx_translate.specs.OwnLines.{own_lines}
use Rattle.tx_translate.proofs.LineParts.{own_last, own_split, shorter_rest}
use Rattle.tx_translate.proofs.lines.split_line.Goals as goal

pub returns-in-Some-clause-lines : goal.returns-in-Some-clause-lines
returns-in-Some-clause-lines c =
    own_split c.args.text.now c.take_line.result.0.now c.in-Some.rest.now c.take_line.ensures.line (rw c.in-Some.is at c.take_line.ensures.rest)
    ∙ ap (λ (line : List ℕ). line ∷ own_lines c.in-Some.rest.now) (sym c.before_return.ensures)

pub returns-in-Some-clause-shorter : goal.returns-in-Some-clause-shorter
returns-in-Some-clause-shorter c = shorter_rest c.args.text.now c.in-Some.rest.now (sym (rw c.in-Some.is at c.take_line.ensures.rest))

pub returns-in-None-clause-lines : goal.returns-in-None-clause-lines
returns-in-None-clause-lines c =
    let some : 0 < length c.args.text.now = search rules in
    own_last c.args.text.now c.take_line.result.0.now some c.take_line.ensures.line (rw c.in-None.is at c.take_line.ensures.rest)
    ∙ ap (λ (line : List ℕ). line ∷ []) (sym c.before_return-in-None.ensures)
