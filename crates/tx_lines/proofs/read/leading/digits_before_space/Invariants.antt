use Rattle.std.proofs.Common.{◌≤◌}
use Rattle.tx_lines.proofs.Digits.{ReadsSoFar}
use Rattle.tx_lines.proofs.read.leading.digits_before_space.Given as goal

abbrev pub invariant-loop-i : goal.invariant-loop-i
invariant-loop-i l = ReadsSoFar l.line l.i l.number × (l.i ≤ 19)
