use Rattle.std.proofs.Common.{◌≡◌, length}
use Rattle.tx_check.specs.Kinds.{debug_ahead}
use Rattle.tx_translate.specs.MeantLines.{left_of}
use Rattle.tx_check.proofs.kinds.has_debug.Given as goal

abbrev pub invariant-loop-line : goal.invariant-loop-line
invariant-loop-line l = debug_ahead (left_of l.lines) ≡ debug_ahead (left_of l.left)

abbrev pub decreases-loop-line : goal.decreases-loop-line
decreases-loop-line l = length l.left.left.now
