-- What a table of slots is in the end, where a `&mut` to one of its values is returned.
use Rattle.std.specs.Prelude.{ℕ, List, Option, Some}
use Rattle.std.specs.Borrow.{Lends, Fml, RattleType, MutBor}
use Rattle.tx_base.specs.Slots.{with_slot}
use Rattle.tx_base.specs.contracts.slots.Slots.{the_row}

-- once the borrow r ends, the slot of the number has the last value written through r
abbrev pub lends_slot : (T : RattleType) → MutBor (List (Option T.Denot)) → ℕ → MutBor T.Denot → Fml
lends_slot T s n r = Lends (the_row T) T s r (λ w. with_slot s.now n (Some w))
