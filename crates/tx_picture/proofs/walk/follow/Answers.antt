use Rattle.tx_content.specs.Content.{view_of}
use Rattle.tx_picture.proofs.Followed.{begun_more, begun_none}
use Rattle.tx_picture.specs.Drawings.{holders}
use Rattle.tx_picture.proofs.walk.follow.Goals as goal

pub loop-done-init : goal.loop-done-init
loop-done-init c = begun_none (holders c.args.stretch (view_of c.args.machine.now)) c.args.end.row _

pub loop-done-preserved : goal.loop-done-preserved
loop-done-preserved c =
    begun_more (holders c.args.stretch (view_of c.args.machine.now)) c.args.end.row c.loop-done.done c.holder.result _ c.loop-done.spans.items c.begin.new.spans.items c.loop-done.invariant
    c.in_ok-begin.ensures c.holder.ensures
