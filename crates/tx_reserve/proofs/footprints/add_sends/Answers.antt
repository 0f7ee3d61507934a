use Rattle.std.proofs.Common.{pos, None, refl, get_or, arith}
use Rattle.tx_base.specs.declared.names.Sending.{Sending}
use Rattle.tx_model.specs.History.{targets}
use Rattle.tx_reserve.specs.Footprints.{table_at}
use Rattle.tx_reserve.proofs.Rows.{adds_none, sends_more, sends_all}
use Rattle.tx_reserve.proofs.footprints.add_sends.Goals as goal

pub loop-sending-init : goal.loop-sending-init
unfolding targets
loop-sending-init c = adds_none c.args.set.now

pub loop-sending-preserved : goal.loop-sending-preserved
loop-sending-preserved c =
    let none : Sending = record { target = record { 0 = 0 }; signo = record { 0 = 0 }; value = pos 0; from = None } in
    sends_more (table_at c.args.actor.now c.args.marks.now) c.args.actor.now.pid.0 c.args.sends.now c.loop-sending.sending-index (get_or c.args.sends.now c.loop-sending.sending-index none) none
    c.loop-sending-test.true refl c.loop-sending.invariant c.add_posted.ensures

pub returns : goal.returns
returns c = sends_all (table_at c.args.actor.now c.args.marks.now) c.args.actor.now.pid.0 c.args.sends.now c.loop-sending.sending-index (omega arith) c.loop-sending.invariant
