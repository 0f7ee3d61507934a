use Rattle.std.proofs.Common.{◌≡◌, ◌+◌, ◌≤◌, length, map}
use Rattle.tx_check.specs.Labels.{label_at, labels_in}
use Rattle.tx_check.specs.Numbered.{after_lines}
use Rattle.tx_translate.specs.MeantLines.{left_of}
use Rattle.tx_check.proofs.labels.Labels.of.Given as goal

abbrev pub invariant-loop-line : goal.invariant-loop-line
invariant-loop-line l = record {
  known : map label_at l.known.items ≡ labels_in l.passed 1 (left_of l.text);
  behind : left_of l.left ≡ after_lines l.passed (left_of l.text);
  room : l.passed + length l.left.left.now ≤ length l.text.left.now;
}

abbrev pub decreases-loop-line : goal.decreases-loop-line
decreases-loop-line l = length l.left.left.now
