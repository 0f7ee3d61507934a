use Rattle.tx_reserve.specs.Objects.{weight}
use Rattle.tx_txn.proofs.MemberMarks.{TookMarks}
use Rattle.tx_txn.proofs.members.Members.take.Given as goal

abbrev pub invariant-loop-pid : goal.invariant-loop-pid
invariant-loop-pid l = TookMarks l.starter.0 l.rest l.fn.marks l.marks l.members

abbrev pub decreases-loop-pid : goal.decreases-loop-pid
decreases-loop-pid l = weight l.rest
