use Rattle.std.proofs.Common.{◌+◌}
use Rattle.tx_base.specs.Slots.{slot_at}
use Rattle.tx_json.specs.EachLaws.{upto_none, upto_more}
use Rattle.tx_json.specs.Txns.{mark_item}
use Rattle.tx_content.specs.Content.{view_of}
use Rattle.tx_model.specs.View.{present}
use Rattle.tx_json.proofs.state.put_txns.Goals as goal

pub loop-done-init : goal.loop-done-init
loop-done-init c =
    upto_none (λ done. mark_item c.args.width (slot_at c.args.machine.now.marks) (done + 1) ((present (view_of c.args.machine.now)).held (done + 1)) (slot_at c.args.machine.now.marks (done + 1)))
    c.begin_list.new.writer

pub loop-done-preserved : goal.loop-done-preserved
loop-done-preserved c =
    upto_more (λ done. mark_item c.args.width (slot_at c.args.machine.now.marks) (done + 1) ((present (view_of c.args.machine.now)).held (done + 1)) (slot_at c.args.machine.now.marks (done + 1)))
    c.loop-done.done c.begin_list.new.writer c.loop-done.writer c.put_txn_of.new.writer c.loop-done.invariant c.in_ok-put_txn_of.ensures
