use Rattle.std.proofs.Common.{ap, string_bytes}
use Rattle.std.proofs.lemmas.Result.{on_ok_weaker}
use Rattle.tx_base.specs.Slots.{slot_at}
use Rattle.tx_journal.proofs.PieceSpelled.{txn_spelled}
use Rattle.tx_kernel.specs.Plans.{sending_of}
use Rattle.std.specs.Prelude.{map}
use Rattle.tx_journal.proofs.pieces.put_txn.Goals as goal

pub returns : goal.returns
returns c =
    on_ok_weaker c.put_txn_lines.result
    (λ lines. txn_spelled c.args.machine.now c.args.starter c.processes-width.result (slot_at c.marks-marks.result.now) (map sending_of c.held.result.now) (string_bytes c.args.text.now) (string_bytes c.put_txn_lines.new.text)
    c.processes-width.ensures.table c.if-starter-width.false (ap slot_at c.marks-marks.ensures.marks) c.held.ensures lines)
    c.put_txn_lines.ensures
