use Rattle.tx_base.specs.declared.steps.Step.{Step}
use Rattle.tx_lines.specs.Lines.{step_text, FitsStep}
use Rattle.tx_shell.proofs.OwnSteps.{step_meant}
use Rattle.std.proofs.Common.{◌≡◌}
use Rattle.tx_shell.proofs.shell.Shell.answer_other.Goals as goal

pub returns-then-read_step_into-clause-answer : goal.returns-then-read_step_into-clause-answer
returns-then-read_step_into-clause-answer c =
    let step : Step = c.read_step_into.new.step in
    let fits : FitsStep step = rw c.if-read_step_into.true at c.read_step_into.ensures.fits in
    let found : c.args.line.now ≡ step_text step = rw c.if-read_step_into.true at c.read_step_into.ensures.found in
    rw (step_meant c.second_stays_itself.ensures.step c.args.self.now.interpreter.version c.args.line.now step fits found) (c.in_ok-answer_step.ensures.answer c.args.line.now)
