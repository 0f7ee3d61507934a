use Rattle.std.proofs.Common.{ap, not, sym}
use Rattle.tx_txn.proofs.MemberMarks.{none_open, one_open}
use Rattle.tx_txn.proofs.members.is_last_open.Goals as goal

pub returns-then-is_other_open : goal.returns-then-is_other_open
returns-then-is_other_open c = sym (ap not (one_open c.args.starter.0 c.args.pid.0 c.in-Some.other.0 c.args.marks.now (sym c.if-is_other_open.ensures)))

pub returns : goal.returns
returns c = sym (ap not (none_open c.args.starter.0 c.args.pid.0 c.args.marks.now c.args.objects.now c.loop-other.rest c.requires c.loop-other.invariant c.in_default.ensures.none))
