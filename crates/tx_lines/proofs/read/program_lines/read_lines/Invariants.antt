use Rattle.std.proofs.Common.{◌≡◌, ◌++◌, length}
use Rattle.tx_lines.specs.Programs.{labels_of, line_text, AreLines}
use Rattle.tx_lines.specs.Schedule.{lines_of}
use Rattle.tx_lines.proofs.read.program_lines.read_lines.Given as goal

abbrev pub invariant-loop-left : goal.invariant-loop-left
invariant-loop-left l = record {
  good : AreLines l.version l.lines.items;
  parts : l.text ≡ lines_of line_text l.lines.items ++ l.left;
  labels : l.labels.entries ≡ labels_of l.lines.items;
}

abbrev pub decreases-loop-left : goal.decreases-loop-left
decreases-loop-left l = length l.left
