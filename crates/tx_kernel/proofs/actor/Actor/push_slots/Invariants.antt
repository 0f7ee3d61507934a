use Rattle.tx_kernel.specs.Plans.{Extends}
use Rattle.tx_kernel.specs.Returns.{SlotsPut}
use Rattle.tx_kernel.proofs.actor.Actor.push_slots.Given as goal

abbrev pub invariant-loop-number : goal.invariant-loop-number
invariant-loop-number l = SlotsPut l.self l.initial.log l.log l.slots l.number × Extends l.initial.log l.log
