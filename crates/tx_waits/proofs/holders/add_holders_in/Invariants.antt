use Rattle.std.proofs.Common.{◌≡◌, ◌++◌, ℕ, List}
use Rattle.tx_change.specs.States.{state_of}
use Rattle.tx_model.specs.State.{Sending}
use Rattle.tx_waits.specs.Holders.{each_below, holder_at, is_sought}
use Rattle.tx_waits.proofs.holders.add_holders_in.Given as goal

abbrev pub invariant-loop-descriptor : goal.invariant-loop-descriptor
invariant-loop-descriptor l = (held : ℕ → List Sending) → l.found.items ≡ l.initial.found.items ++ each_below (holder_at (is_sought (state_of held l.parts) l.sought) (state_of held l.parts) l.process) l.descriptor
