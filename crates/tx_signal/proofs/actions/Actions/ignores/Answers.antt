use Rattle.std.proofs.Common.{ap, ◌∙◌}
use Rattle.tx_base.specs.declared.signals.Action.{Action}
use Rattle.tx_model.specs.Words.{is_ignored}
use Rattle.tx_signal.proofs.actions.Actions.ignores.Goals as goal

pub returns : goal.returns
returns c = λ me. c.is_ignored.ensures ∙ ap (λ (action : Action). is_ignored c.args.signo.0 action) (c.get.ensures me)
