use Rattle.std.proofs.Common.{◌≡◌, fold, take}
use Rattle.tx_picture.specs.Passages.{taken_from, Taking}
use Rattle.tx_picture.proofs.passages.take.Given as goal

abbrev pub invariant-loop-i : goal.invariant-loop-i
invariant-loop-i l =
    let now : Taking = record { rest = l.rest; passages = l.passages.items } in
    now ≡ fold (taken_from l.reading) (record { rest = l.reading.held; passages = l.initial.passages.items }) (take l.i l.written)
