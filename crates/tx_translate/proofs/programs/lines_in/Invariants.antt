use Rattle.std.proofs.Common.{◌≡◌, length}
use Rattle.tx_lines.specs.Programs.{labels_of, line_text, AreLines}
use Rattle.tx_translate.specs.FirstLines.{IsBefore}
use Rattle.tx_translate.specs.MeantLines.{left_of}
use Rattle.tx_translate.proofs.programs.lines_in.Given as goal

abbrev pub invariant-loop-line : goal.invariant-loop-line
invariant-loop-line l = record {
  so : IsBefore line_text (AreLines l.version) l.lines.items (left_of l.left) (left_of l.initial.left);
  labels : l.labels.entries ≡ labels_of l.lines.items;
}

abbrev pub decreases-loop-line : goal.decreases-loop-line
decreases-loop-line l = length l.left.left.now
