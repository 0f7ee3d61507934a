use Rattle.std.proofs.Common.{◌≡◌, ◌++◌, length}
use Rattle.tx_lines.specs.Schedule.{steps_text, AreSteps}
use Rattle.tx_lines.proofs.read.walk_text.steps_before_commands.Given as goal

abbrev pub invariant-loop-steps : goal.invariant-loop-steps
invariant-loop-steps l = record {
  good : AreSteps l.version l.steps.items;
  parts : l.text ≡ steps_text l.steps.items ++ l.left;
}

abbrev pub decreases-loop-steps : goal.decreases-loop-steps
decreases-loop-steps l = length l.left
