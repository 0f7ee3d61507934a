use Rattle.std.proofs.Common.{arith}
use Rattle.tx_journal.proofs.Parting.{above_more, above_none, pushed, unpushed}
use Rattle.tx_journal.proofs.parted.push_down.Goals as goal

pub loop-number-preserved : goal.loop-number-preserved
loop-number-preserved c =
    pushed _ _ _ _ _ _ c.in_ok-push.ensures.items (above_more c.args.to c.loop-number.number (omega arith)) c.loop-number.invariant

pub returns : goal.returns
returns c = unpushed _ _ _ (above_none c.args.to c.loop-number.number (omega arith)) c.loop-number.invariant
