use Rattle.std.proofs.Common.{◌≡◌, ◌++◌, take}
use Rattle.tx_picture.specs.Waits.{waits_of}
use Rattle.tx_picture.proofs.waits.note_waits.Given as goal

abbrev pub invariant-loop-i : goal.invariant-loop-i
invariant-loop-i l = l.waits.items ≡ l.initial.waits.items ++ waits_of l.row l.waiter.0 (take l.i l.processes)
