use Rattle.std.proofs.Common.{ℕ, ap, take, ◌∙◌}
use Rattle.std.proofs.lemmas.List.{take_min}
use Rattle.tx_answers.proofs.sessions.cut.Goals as goal

pub returns-clause-line : goal.returns-clause-line
returns-clause-line c =
    let line = c.take_line.result.0.now in
    ap (λ (n : ℕ). take n line) c.min.ensures ∙ take_min 514 line ∙ ap (take 514) c.take_line.ensures.line
