use Rattle.std.proofs.Common.{◌≡◌, ◌+◌, ◌<◌, ◌≤◌, ◌^◌, ℕ, List, length}
use Rattle.tx_translate.specs.MeantLines.{left_of, MeanFrom, OwnsFrom}
use Rattle.tx_translate.specs.OwnLines.{own_lines}
use Rattle.tx_translate.specs.Plain.{plain_from}
use Rattle.tx_translate.proofs.meant_lines.MeantLines.cut_third.Given as goal

abbrev pub invariant-loop-bytes : goal.invariant-loop-bytes
invariant-loop-bytes l = record {
  left : left_of l.self ≡ plain_from l.stage (own_lines l.left);
  own : (text : List ℕ) (number : ℕ) → OwnsFrom text number l.self → MeanFrom text number l.stage l.number (own_lines l.left) × (l.number + length l.left < 2 ^ 64);
  few : length l.left ≤ length l.self.left.now;
}

abbrev pub decreases-loop-bytes : goal.decreases-loop-bytes
decreases-loop-bytes l = length l.left
