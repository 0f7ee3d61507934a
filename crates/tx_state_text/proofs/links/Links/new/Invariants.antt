use Rattle.tx_base.specs.Slots.{slot_at}
use Rattle.tx_state_text.specs.Links.{AreLinkedAbove}
use Rattle.tx_state_text.proofs.links.Links.new.Given as goal

abbrev pub invariant-loop-done : goal.invariant-loop-done
invariant-loop-done l = AreLinkedAbove l.done l.width (slot_at l.marks) l.firsts.items l.nexts.items
