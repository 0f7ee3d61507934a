use Rattle.std.proofs.Common.{◌≡◌, None}
use Rattle.std.specs.Prelude.{replicate}
use Rattle.tx_base.proofs.slots.Slots.new.Given as goal

abbrev pub invariant-loop-number : goal.invariant-loop-number
invariant-loop-number g l = l.slots.items ≡ replicate l._number None
