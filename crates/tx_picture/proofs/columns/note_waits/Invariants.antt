use Rattle.std.proofs.Common.{◌≡◌, take}
use Rattle.tx_picture.specs.Columns.{noted_waits}
use Rattle.tx_picture.proofs.columns.note_waits.Given as goal

abbrev pub invariant-loop-i : goal.invariant-loop-i
invariant-loop-i l = l.columns.items ≡ noted_waits l.initial.columns.items (take l.i l.waits)
