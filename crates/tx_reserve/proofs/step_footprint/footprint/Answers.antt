use Rattle.std.proofs.Common.{[], sym, subst}
use Rattle.tx_base.specs.declared.steps.Step.{Step}
use Rattle.tx_change.specs.States.{state_of}
use Rattle.tx_model.specs.Footprints.{footprint}
use Rattle.tx_reserve.specs.Footprints.{IsSetOf, table_of}
use Rattle.tx_reserve.proofs.Rows.{adds_none, set_of}
use Rattle.tx_reserve.proofs.step_footprint.footprint.Goals as goal

pub returns-in-KernelAbort : goal.returns-in-KernelAbort
unfolding footprint
returns-in-KernelAbort c = λ all holds.
    subst (λ (step : Step). IsSetOf c.new-set.result (footprint (table_of c.args.parts.now c.args.marks.now) step (state_of all c.args.parts.now))) (sym c.in-KernelAbort.is)
    (set_of c.new-set.result [] c.new-set.ensures (adds_none c.new-set.result))
