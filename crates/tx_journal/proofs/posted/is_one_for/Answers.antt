use Rattle.std.proofs.Common.{sym, ◌∙◌}
use Rattle.tx_journal.proofs.PostedTo.{sent_end, sent_here, sent_later}
use Rattle.tx_journal.proofs.posted.is_one_for.Goals as goal

pub returns-then-eq : goal.returns-then-eq
returns-then-eq c =
    sym (sent_here c.args.pid.0 c.args.sendings.now c.loop-sending.sending-index _ c.loop-sending-test.true (sym c.eq.ensures ∙ c.if-eq.true)) ∙ c.loop-sending.invariant

pub loop-sending-preserved : goal.loop-sending-preserved
loop-sending-preserved c =
    sym (sent_later c.args.pid.0 c.args.sendings.now c.loop-sending.sending-index _ c.loop-sending-test.true (sym c.eq.ensures ∙ c.if-eq.false)) ∙ c.loop-sending.invariant

pub returns : goal.returns
returns c = sym (sent_end c.args.pid.0 c.args.sendings.now c.loop-sending.sending-index c.loop-sending-test.false) ∙ c.loop-sending.invariant
