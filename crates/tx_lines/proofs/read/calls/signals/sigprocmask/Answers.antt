use Rattle.std.proofs.Common.{◌∙◌, ◌∷◌, ◌++◌, List, ℕ, codes, ap, sym}
use Rattle.tx_lines.specs.Calls.{how_text}
use Rattle.tx_lines.proofs.FirstWord.{split_parts}
use Rattle.tx_lines.proofs.read.calls.signals.sigprocmask.Goals as goal

pub returns-clause-found : goal.returns-clause-found
returns-clause-found c =
    ap (λ (text : List ℕ). codes "sigprocmask " ++ text)
    (split_parts 32 c.args.arguments.now c.in_ok-first.first.now c.in_ok-first.rest.now (sym c.in_ok-first.ensures)
    ∙ ap (λ (word : List ℕ). word ++ 32 ∷ c.in_ok-first.rest.now) c.in_ok-way.ensures.found
    ∙ ap (λ (text : List ℕ). how_text c.in_ok-way.way ++ 32 ∷ text) c.in_ok-set.ensures.found)
