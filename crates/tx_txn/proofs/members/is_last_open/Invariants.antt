use Rattle.tx_reserve.specs.Objects.{weight}
use Rattle.tx_txn.proofs.MemberMarks.{NoneOpen}
use Rattle.tx_txn.proofs.members.is_last_open.Given as goal

abbrev pub invariant-loop-other : goal.invariant-loop-other
invariant-loop-other l = NoneOpen l.starter.0 l.pid.0 l.marks l.objects l.rest

abbrev pub decreases-loop-other : goal.decreases-loop-other
decreases-loop-other l = weight l.rest
