use Rattle.tx_content.specs.Content.{view_of}
use Rattle.tx_picture.proofs.Mapped.{mapped_more}
use Rattle.tx_picture.specs.Drawings.{holders}
use Rattle.tx_picture.specs.Spans.{ended_by}
use Rattle.tx_picture.proofs.walk.end_open.Goals as goal

pub loop-span-preserved : goal.loop-span-preserved
loop-span-preserved c =
    mapped_more (ended_by (holders c.args.stretch (view_of c.args.machine.now)) c.args.end) c.args.spans.now c.loop-span.spans c.loop-span.span-index _ c.ended_by.result c.loop-span-test.true c.loop-span.auto.spans
    c.loop-span.invariant c.ended_by.ensures
