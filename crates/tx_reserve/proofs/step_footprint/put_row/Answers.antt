use Rattle.std.proofs.Common.{subst}
use Rattle.tx_base.specs.declared.steps.Step.{Step}
use Rattle.tx_change.specs.States.{state_of}
use Rattle.tx_model.specs.Footprints.{footprint}
use Rattle.tx_reserve.specs.Footprints.{IsSetOf, table_at}
use Rattle.tx_reserve.proofs.AnyStep.{own_call, own_delivery}
use Rattle.tx_reserve.proofs.step_footprint.put_row.Goals as goal

pub returns-in-Call : goal.returns-in-Call
returns-in-Call c = λ all goes.
    let actor = c.args.actor.now in
    subst (λ (step : Step). IsSetOf c.footprint_of_call.new.set (footprint (table_at actor c.args.marks.now) step (state_of all actor.parts.now))) (own_call c.in-Call.is c.requires.own)
    (c.footprint_of_call.ensures all (λ ends. goes))

pub returns-in-Deliver : goal.returns-in-Deliver
returns-in-Deliver c = λ all goes.
    let actor = c.args.actor.now in
    subst (λ (step : Step). IsSetOf c.footprint_of_delivery.new.set (footprint (table_at actor c.args.marks.now) step (state_of all actor.parts.now))) (own_delivery c.in-Deliver.is c.requires.own)
    (c.footprint_of_delivery.ensures all (λ ends. goes))
