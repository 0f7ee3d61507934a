use Rattle.std.proofs.Common.{[], ◌∷◌, List, Option, None, replicate, subst, sym}
use Rattle.tx_desc.specs.Counts.{Agrees}
use Rattle.tx_desc.specs.Places.{Descriptors}
use Rattle.tx_desc.specs.declared.opened.Opened.{Opened}
use Rattle.tx_tests.proofs.descriptors.opened.Goals as goal

pub returns-in-Ok-eq0-eq1 : goal.returns-in-Ok-eq0-eq1
returns-in-Ok-eq0-eq1 c =
    let first = c.none_named_at_first.ensures.empty 1 in
    let nothing = subst (λ (D : List (Option Opened)). Agrees (replicate 16 None ∷ []) D) (sym c.new-descs.ensures) first in
    c.pipe_pair.ensures.counts [] (subst (λ (t : Descriptors). Agrees (t ∷ []) c.new-descs.result) (sym c.new-table.ensures) nothing)
