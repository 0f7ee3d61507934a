use Rattle.std.proofs.Common.{subst}
use Rattle.tx_model.specs.Footprints.{footprint}
use Rattle.tx_model.specs.View.{View, present}
use Rattle.tx_reserve.specs.Footprints.{IsSetOf}
use Rattle.tx_shell.proofs.questions.blockers.names.Goals as goal

pub returns : goal.returns
returns c = subst (λ (V : View). IsSetOf c.footprint.result (footprint V.table c.args.step.now (present V))) c.machine.ensures.view c.footprint.ensures
