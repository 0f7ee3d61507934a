use Rattle.std.proofs.Common.{◌+◌}
use Rattle.tx_base.specs.Slots.{slot_at}
use Rattle.tx_json.specs.Txns.{member_item}
use Rattle.tx_json.specs.EachLaws.{upto_none, upto_more}
use Rattle.tx_json.proofs.txns.put_members.Goals as goal

pub loop-done-init : goal.loop-done-init
loop-done-init c = upto_none (λ done. member_item (slot_at c.args.marks.now) c.args.starter.0 c.args.ended (done + 1)) c.begin_list.new.writer

pub loop-done-preserved : goal.loop-done-preserved
loop-done-preserved c =
    let line = c.in_ok-put_member.ensures in
    upto_more (λ done. member_item (slot_at c.args.marks.now) c.args.starter.0 c.args.ended (done + 1)) c.loop-done.done c.begin_list.new.writer c.loop-done.writer c.put_member.new.writer c.loop-done.invariant line
