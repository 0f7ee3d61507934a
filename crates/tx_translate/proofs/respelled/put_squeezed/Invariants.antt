use Rattle.std.proofs.Common.{◌≡◌, ◌++◌, List, ℕ, false, length, option_map}
use Rattle.tx_translate.specs.Respelled.{squeezed}
use Rattle.tx_translate.proofs.respelled.put_squeezed.Given as goal

abbrev pub invariant-loop-byte : goal.invariant-loop-byte
invariant-loop-byte l = option_map (λ (text : List ℕ). l.initial.room.items ++ text) (squeezed false l.line) ≡ option_map (λ (text : List ℕ). l.room.items ++ text) (squeezed l.gap l.left)

abbrev pub decreases-loop-byte : goal.decreases-loop-byte
decreases-loop-byte l = length l.left
