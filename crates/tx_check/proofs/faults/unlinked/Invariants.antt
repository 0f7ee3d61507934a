use Rattle.std.proofs.Common.{length}
use Rattle.tx_check.proofs.Linked.{LinkedSoFar}
use Rattle.tx_translate.specs.MeantLines.{left_of}
use Rattle.tx_check.proofs.faults.unlinked.Given as goal

abbrev pub invariant-loop-line : goal.invariant-loop-line
invariant-loop-line l = LinkedSoFar l.header.version (left_of l.rest) l.number (left_of l.left)

abbrev pub decreases-loop-line : goal.decreases-loop-line
decreases-loop-line l = length l.left.left.now
