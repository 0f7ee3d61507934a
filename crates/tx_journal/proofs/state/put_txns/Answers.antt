use Rattle.std.proofs.Common.{◌+◌, string_bytes}
use Rattle.tx_base.specs.Slots.{slot_at}
use Rattle.tx_content.specs.Content.{view_of}
use Rattle.tx_model.specs.View.{present}
use Rattle.tx_state_text.specs.Txns.{txn_lines}
use Rattle.tx_state_text.specs.EachLaws.{upto_none, upto_more}
use Rattle.tx_journal.proofs.state.put_txns.Goals as goal

pub loop-done-init : goal.loop-done-init
loop-done-init c = upto_none (λ done. txn_lines c.args.width (slot_at c.args.machine.now.marks) (present (view_of c.args.machine.now)).held (done + 1)) (string_bytes c.args.text.now)

pub loop-done-preserved : goal.loop-done-preserved
loop-done-preserved c =
    let lines = rw (c.marks-marks.ensures.marks, c.held.ensures) at c.in_ok-put_txn_lines.ensures in
    upto_more (λ done. txn_lines c.args.width (slot_at c.args.machine.now.marks) (present (view_of c.args.machine.now)).held (done + 1)) c.loop-done.done (string_bytes c.args.text.now) (string_bytes c.loop-done.text) (string_bytes c.put_txn_lines.new.text) c.loop-done.invariant lines
