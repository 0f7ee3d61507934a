use Rattle.std.proofs.Common.{ap, ◌∙◌}
use Rattle.tx_model.specs.View.{View}
use Rattle.tx_step.specs.TwoAnswers.{two_answers}
use Rattle.tx_shell.proofs.questions.signals.two_answers.Goals as goal

pub returns : goal.returns
returns c = c.two_answers.ensures ∙ ap (λ (V : View). two_answers V c.args.step.now c.args.starter.0) c.machine.ensures.view
