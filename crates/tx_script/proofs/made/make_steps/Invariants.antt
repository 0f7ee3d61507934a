use Rattle.std.proofs.Common.{drop}
use Rattle.tx_script.proofs.StepsMade.{StepsSoFar}
use Rattle.tx_script.proofs.made.make_steps.Given as goal

abbrev pub invariant-loop-i : goal.invariant-loop-i
invariant-loop-i l = StepsSoFar l.initial.session l.session l.initial.steps (drop l.i l.steps)
