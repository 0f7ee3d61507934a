use Rattle.std.proofs.Common.{◌≡◌, ◌++◌, length}
use Rattle.tx_lines.specs.Schedule.{steps_text, AreSteps}
use Rattle.tx_lines.proofs.read.text.read_steps.Given as goal

abbrev pub invariant-loop-left : goal.invariant-loop-left
invariant-loop-left l = record {
  good : AreSteps l.version l.steps.items;
  parts : l.text ≡ steps_text l.steps.items ++ l.left;
}

abbrev pub decreases-loop-left : goal.decreases-loop-left
decreases-loop-left l = length l.left
