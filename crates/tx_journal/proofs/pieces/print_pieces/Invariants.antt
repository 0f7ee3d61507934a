use Rattle.std.proofs.Common.{◌≡◌, map, string_bytes, take}
use Rattle.tx_journal.specs.Rows.{lines_of}
use Rattle.tx_content.specs.Content.{view_of}
use Rattle.tx_journal.proofs.pieces.print_pieces.Given as goal

abbrev pub invariant-loop-piece : goal.invariant-loop-piece
invariant-loop-piece l = map string_bytes l.texts.items ≡ lines_of (take l.piece-index l.pieces) (view_of l.machine)
