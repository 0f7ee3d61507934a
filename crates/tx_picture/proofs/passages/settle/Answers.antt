use Rattle.std.proofs.Common.{◌∙◌, sym}
use Rattle.tx_picture.proofs.Mapped.{mapped_more}
use Rattle.tx_picture.proofs.Settled.{unsettled}
use Rattle.tx_picture.specs.Passages.{settled}
use Rattle.tx_picture.proofs.passages.settle.Goals as goal

pub loop-one-preserved : goal.loop-one-preserved
loop-one-preserved c =
    mapped_more (settled c.args.starter c.args.reply.now) c.args.written.now c.loop-one.written c.loop-one.one-index _ c.settled.result c.loop-one-test.true c.loop-one.auto.written c.loop-one.invariant
    c.settled.ensures

pub returns-then-not-settles : goal.returns-then-not-settles
returns-then-not-settles c = sym (unsettled c.args.starter c.args.reply.now c.args.written.now (sym c.settles.ensures ∙ c.if-not-settles.true))
