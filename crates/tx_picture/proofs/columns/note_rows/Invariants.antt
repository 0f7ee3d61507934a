use Rattle.std.proofs.Common.{◌≡◌, take}
use Rattle.tx_picture.specs.Columns.{noted_rows}
use Rattle.tx_picture.proofs.columns.note_rows.Given as goal

abbrev pub invariant-loop-i : goal.invariant-loop-i
invariant-loop-i l = l.columns.items ≡ noted_rows l.initial.columns.items (take l.i l.rows)
