use Rattle.std.proofs.Common.{◌≡◌, ◌≤◌, length}
use Rattle.tx_expect.specs.Comments.{comment_from}
use Rattle.tx_expect.proofs.CommentParts.{within}
use Rattle.tx_translate.specs.declared.reading.Reading.TheVariants.{InString}
use Rattle.tx_expect.proofs.comments.after_string.Given as goal

abbrev pub invariant-loop-byte : goal.invariant-loop-byte
invariant-loop-byte l = record {
  same : comment_from InString l.line ≡ comment_from (within l.is_escaped) l.left;
  shorter : length l.left ≤ length l.line;
}

abbrev pub decreases-loop-byte : goal.decreases-loop-byte
decreases-loop-byte l = length l.left
