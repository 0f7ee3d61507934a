use Rattle.std.proofs.Common.{◌≡◌, length}
use Rattle.tx_expect.specs.Comments.{comment_from, comment_in}
use Rattle.tx_expect.proofs.CommentParts.{outside}
use Rattle.tx_expect.proofs.comments.comment_after_strings.Given as goal

abbrev pub invariant-loop-byte : goal.invariant-loop-byte
invariant-loop-byte l = comment_in l.line ≡ comment_from (outside l.is_in_word) l.left

abbrev pub decreases-loop-byte : goal.decreases-loop-byte
decreases-loop-byte l = length l.left
