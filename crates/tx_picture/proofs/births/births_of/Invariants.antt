use Rattle.std.proofs.Common.{◌≡◌, ◌+◌, ◌++◌, drop}
use Rattle.tx_picture.specs.Names.{births_from}
use Rattle.tx_picture.proofs.births.births_of.Given as goal

abbrev pub invariant-loop-i : goal.invariant-loop-i
invariant-loop-i l = births_from 1 l.steps l.replies ≡ l.births.items ++ births_from (l.i + 1) (drop l.i l.steps) (drop l.i l.replies)
