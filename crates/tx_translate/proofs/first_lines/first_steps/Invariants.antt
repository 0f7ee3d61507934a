use Rattle.std.proofs.Common.{length}
use Rattle.tx_lines.specs.Lines.{step_text}
use Rattle.tx_lines.specs.Schedule.{AreSteps}
use Rattle.tx_translate.specs.FirstLines.{IsBefore}
use Rattle.tx_translate.specs.MeantLines.{left_of}
use Rattle.tx_translate.proofs.first_lines.first_steps.Given as goal

abbrev pub invariant-loop-line : goal.invariant-loop-line
invariant-loop-line l = IsBefore step_text (AreSteps l.version) l.steps.items (left_of l.left) (left_of l.initial.lines)

abbrev pub decreases-loop-line : goal.decreases-loop-line
decreases-loop-line l = length l.left.left.now
