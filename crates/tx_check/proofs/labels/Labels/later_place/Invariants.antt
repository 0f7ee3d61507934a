use Rattle.std.proofs.Common.{◌≡◌, ◌≢◌, ℕ, ◌+◌, ◌<◌, ◌^◌, ◌++◌, length}
use Rattle.tx_check.specs.Numbered.{after_lines}
use Rattle.tx_lines.specs.Programs.{label_front}
use Rattle.tx_lines.specs.Schedule.{first_line}
use Rattle.tx_translate.specs.MeantLines.{left_of}
use Rattle.tx_check.proofs.labels.Labels.later_place.Given as goal

abbrev pub invariant-loop-line : goal.invariant-loop-line
invariant-loop-line l = record {
  at : left_of l.left ≡ after_lines l.passed (left_of l.self.text);
  room : l.passed + length l.left.left.now < 2 ^ 64;
  others : (k : ℕ) → k < l.passed → first_line (after_lines k (left_of l.self.text)) ≢ label_front ++ l.name;
}

abbrev pub decreases-loop-line : goal.decreases-loop-line
decreases-loop-line l = length l.left.left.now
