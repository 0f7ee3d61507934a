use Rattle.std.proofs.Common.{ℕ, List, take}
use Rattle.tx_change.specs.States.{state_of}
use Rattle.tx_model.specs.Descriptors.{desc_pipe_objects, open_in}
use Rattle.tx_model.specs.State.{Sending as TheSending}
use Rattle.tx_reserve.specs.Footprints.{Adds}
use Rattle.tx_reserve.proofs.footprints.add_open_and_pipes.Given as goal

abbrev pub invariant-loop-fd : goal.invariant-loop-fd
invariant-loop-fd l = (held : ℕ → List TheSending) → Adds l.fn.set l.set (desc_pipe_objects (open_in (take l.fd l.actor.proc.now.descriptors)) (state_of held l.actor.parts.now))
