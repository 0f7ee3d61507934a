use Rattle.std.proofs.Common.{◌++◌, List, ℕ, map, option_map, take}
use Rattle.tx_check.specs.Near.{near, FindsNear}
use Rattle.tx_check.proofs.near.nearest_form.Given as goal

abbrev pub invariant-loop-at : goal.invariant-loop-at
invariant-loop-at l = (names : List (List ℕ)) → FindsNear l.word names 5 (option_map near l.nearest) → FindsNear l.word (names ++ map (λ form. form.0.now) (take l.at l.forms)) 5 (option_map near l.found)
