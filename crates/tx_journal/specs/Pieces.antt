-- The pieces of a state that have lines of their own.
use Rattle.std.specs.Prelude.{ℕ, List, [], nat_le, if◌then◌else◌}
use Rattle.tx_journal.specs.declared.pieces.Piece.{Piece}
use Rattle.tx_journal.specs.declared.pieces.Piece.TheVariants.{Proc, Page, Fd, Pending, Queue, Ids, Desc, Pipe, Txn}
use Rattle.tx_model.specs.View.{View, present}
use Rattle.tx_state_text.specs.Descriptors.{desc_line, pipe_line}
use Rattle.tx_state_text.specs.Pieces.{fd_of, ids_of, page_of, pending_of, queue_of}
use Rattle.tx_state_text.specs.Processes.{process_lines}
use Rattle.tx_state_text.specs.Txns.{txn_lines}

-- the lines of a piece, as the text of the state has them: none if there is no such piece
abbrev pub piece_text : Piece → View → List ℕ
piece_text (Proc p) V = process_lines p.0 ((present V).procs p.0)
piece_text (Page p number) V = page_of number ((present V).procs p.0)
piece_text (Fd p fd) V = fd_of fd ((present V).procs p.0)
piece_text (Pending p) V = pending_of ((present V).procs p.0)
piece_text (Queue p) V = queue_of ((present V).procs p.0)
piece_text (Ids p) V = ids_of ((present V).procs p.0)
piece_text (Desc number) V = desc_line number.0 ((present V).descs number.0)
piece_text (Pipe number) V = pipe_line number.0 ((present V).pipes number.0)
piece_text (Txn starter) V =
    if nat_le starter.0 V.table.width
    then txn_lines V.table.width V.table.marks (present V).held starter.0
    else []
