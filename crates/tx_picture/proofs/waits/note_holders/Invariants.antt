use Rattle.std.proofs.Common.{◌≡◌, take, Some}
use Rattle.tx_picture.specs.Waits.{holding}
use Rattle.tx_picture.proofs.waits.note_holders.Given as goal

abbrev pub invariant-loop-i : goal.invariant-loop-i
invariant-loop-i l = l.processes.items ≡ holding l.initial.processes.items (Some (take l.i l.holders))
