use Rattle.tx_content.specs.Content.{view_of}
use Rattle.tx_model.specs.Numbers.{negative}
use Rattle.tx_model.specs.View.{kernel_status, present}
use Rattle.tx_journal.proofs.NotesTaken.{abort_noted}
use Rattle.tx_journal.proofs.notes.note_of_kernel_abort.Goals as goal

pub returns : goal.returns
returns c =
    let V = view_of c.args.content.now in
    abort_noted c.args.starter.0 (kernel_status V c.args.starter.0) (negative (kernel_status V c.args.starter.0)) (present V)
