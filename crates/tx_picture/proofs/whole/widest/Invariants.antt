use Rattle.std.proofs.Common.{◌≡◌, ◌+◌, drop}
use Rattle.tx_picture.specs.Pictures.{widest}
use Rattle.tx_picture.specs.Sheets.{page_as}
use Rattle.tx_picture.proofs.whole.widest.Given as goal

abbrev pub invariant-loop-i : goal.invariant-loop-i
invariant-loop-i l = widest (page_as l.sheet) 1 0 l.rows ≡ widest (page_as l.sheet) (l.i + 1) l.most (drop l.i l.rows)
