use Rattle.std.proofs.Common.{◌≡◌, ◌++◌, ℕ, List}
use Rattle.tx_change.specs.States.{state_of}
use Rattle.tx_model.specs.State.{Sending}
use Rattle.tx_waits.specs.Holders.{each_below, holders_in, is_sought}
use Rattle.tx_waits.proofs.holders.add_holders.Given as goal

abbrev pub invariant-loop-process : goal.invariant-loop-process
invariant-loop-process l = (held : ℕ → List Sending) → l.found.items ≡ l.initial.found.items ++ each_below (holders_in (is_sought (state_of held l.parts) l.sought) (state_of held l.parts)) l.process
