use Rattle.std.proofs.Common.{◌≤◌, length}
use Rattle.tx_check.proofs.own.own_word.Given as goal

abbrev pub invariant-loop-earlier : goal.invariant-loop-earlier
invariant-loop-earlier l = length l.left ≤ length l.line
