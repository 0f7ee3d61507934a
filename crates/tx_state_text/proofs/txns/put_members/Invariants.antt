use Rattle.std.proofs.Common.{◌+◌, ◌-◌, string_bytes}
use Rattle.tx_base.specs.Slots.{slot_at}
use Rattle.tx_state_text.proofs.Listed.{ListsSoFar}
use Rattle.tx_state_text.proofs.txns.put_members.Given as goal

abbrev pub invariant-loop-number : goal.invariant-loop-number
invariant-loop-number l = ListsSoFar l.width (slot_at l.marks) l.starter.0 l.ended (string_bytes l.initial.text) (string_bytes l.text) l.some l.number

abbrev pub decreases-loop-number : goal.decreases-loop-number
decreases-loop-number l = l.width + 1 - l.number
