use Rattle.tx_kernel.specs.Discards.{TakenOut}
use Rattle.tx_kernel.specs.Plans.{Extends}
use Rattle.tx_kernel.proofs.actor.Actor.push_taken_out.Given as goal

abbrev pub invariant-loop-entry : goal.invariant-loop-entry
invariant-loop-entry l = TakenOut l.self l.initial.log l.log l.signo.0 l.entry-index l.place × Extends l.initial.log l.log
