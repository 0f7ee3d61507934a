use Rattle.std.proofs.Common.{ap, ◌∙◌}
use Rattle.tx_core.specs.Owners.{other_owner}
use Rattle.tx_model.specs.Events.{process_of}
use Rattle.tx_model.specs.View.{View}
use Rattle.tx_reserve.specs.Objects.{object_of}
use Rattle.tx_shell.proofs.questions.blockers.other_owner.Goals as goal

pub returns : goal.returns
returns c = c.other_owner.ensures ∙ ap (λ (V : View). other_owner V (process_of c.args.step.now) (object_of c.args.object)) c.machine.ensures.view
