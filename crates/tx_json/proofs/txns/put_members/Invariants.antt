use Rattle.std.proofs.Common.{◌≡◌, ◌++◌, ◌+◌}
use Rattle.tx_json.specs.Each.{upto}
use Rattle.tx_base.specs.Slots.{slot_at}
use Rattle.tx_json.specs.Txns.{member_item}
use Rattle.tx_json.proofs.txns.put_members.Given as goal

abbrev pub invariant-loop-done : goal.invariant-loop-done
invariant-loop-done l = l.writer ≡ l.initial.writer ++ upto (λ done. member_item (slot_at l.marks) l.starter.0 l.ended (done + 1)) l.done
