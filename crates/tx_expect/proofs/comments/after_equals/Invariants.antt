use Rattle.std.proofs.Common.{◌≡◌, length}
use Rattle.tx_expect.specs.Comments.{after_equals}
use Rattle.tx_expect.proofs.comments.after_equals.Given as goal

abbrev pub invariant-loop-byte : goal.invariant-loop-byte
invariant-loop-byte l = after_equals l.comment ≡ after_equals l.left

abbrev pub decreases-loop-byte : goal.decreases-loop-byte
decreases-loop-byte l = length l.left
