use Rattle.tx_reserve.specs.Objects.{weight}
use Rattle.tx_txn.proofs.MemberMarks.{PutMarks}
use Rattle.tx_txn.proofs.members.Members.put_back.Given as goal

abbrev pub invariant-loop-pid : goal.invariant-loop-pid
invariant-loop-pid l = PutMarks l.starter l.defers l.self l.rest l.fn.marks l.marks

abbrev pub decreases-loop-pid : goal.decreases-loop-pid
decreases-loop-pid l = weight l.rest
