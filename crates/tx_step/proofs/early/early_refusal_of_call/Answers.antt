use Rattle.std.proofs.Common.{None, Some, sym, ◌∙◌}
use Rattle.tx_base.specs.declared.steps.Step.TheVariants.{Call as Calls}
use Rattle.tx_step.proofs.Refusals.{not_run, who_runs}
use Rattle.tx_step.proofs.early.early_refusal_of_call.Goals as goal

pub returns-in-Err : goal.returns-in-Err
returns-in-Err c = not_run c.laws.ensures c.args.content.now c.args.pid c.requires.shaped c.in-Err.why (Calls c.args.pid c.args.call.now) c.in-Err.ensures.refused

pub returns-in-Some : goal.returns-in-Some
returns-in-Some c =
    who_runs c.laws.ensures c.args.content.now c.args.pid c.requires.shaped c.in-Ok.actor (Calls c.args.pid c.args.call.now) (Some c.in-Some.why)
    (c.in-Ok.ensures.ok) (c.in-Ok.ensures.same).0 (c.in-Ok.ensures.same).1 (λ held. sym c.in-Some.is ∙ c.refusal_of_numbers.ensures held)

pub returns-in-None : goal.returns-in-None
returns-in-None c =
    c.refusal_of_runner.ensures
    ∙ who_runs c.laws.ensures c.args.content.now c.args.pid c.requires.shaped c.in-Ok.actor (Calls c.args.pid c.args.call.now) None
    (c.in-Ok.ensures.ok) (c.in-Ok.ensures.same).0 (c.in-Ok.ensures.same).1 (λ held. sym c.in-None.is ∙ c.refusal_of_numbers.ensures held)
