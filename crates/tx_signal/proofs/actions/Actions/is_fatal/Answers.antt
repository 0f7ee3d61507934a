use Rattle.std.proofs.Common.{ap, ◌∙◌}
use Rattle.tx_base.specs.declared.signals.Action.{Action}
use Rattle.tx_model.specs.Words.{is_fatal}
use Rattle.tx_signal.proofs.actions.Actions.is_fatal.Goals as goal

pub returns : goal.returns
returns c = λ me. c.is_fatal.ensures ∙ ap (λ (action : Action). is_fatal c.args.signo.0 action) (c.get.ensures me)
