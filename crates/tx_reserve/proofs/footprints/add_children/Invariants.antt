use Rattle.std.proofs.Common.{ℕ, List}
use Rattle.tx_change.specs.States.{state_of}
use Rattle.tx_model.specs.Processes.{children_below, procs_of}
use Rattle.tx_model.specs.State.{Sending as TheSending}
use Rattle.tx_reserve.specs.Footprints.{Adds}
use Rattle.tx_reserve.proofs.footprints.add_children.Given as goal

abbrev pub invariant-loop-number : goal.invariant-loop-number
invariant-loop-number l = (held : ℕ → List TheSending) → Adds l.fn.set l.set (procs_of (children_below l.actor.pid.0 l.number (state_of held l.actor.parts.now)))
