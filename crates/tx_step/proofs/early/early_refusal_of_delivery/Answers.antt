use Rattle.std.proofs.Common.{None, Bool, refl, ap, ◌∙◌}
use Rattle.tx_base.specs.declared.steps.Step.TheVariants.{Deliver}
use Rattle.tx_step.proofs.Refusals.{not_run, who_runs}
use Rattle.tx_step.specs.Early.{own_refusal}
use Rattle.tx_content.specs.Content.{view_of}
use Rattle.tx_step.proofs.early.early_refusal_of_delivery.Goals as goal

pub returns-in-Err : goal.returns-in-Err
returns-in-Err c = not_run c.laws.ensures c.args.content.now c.args.pid c.requires.shaped c.in-Err.why (Deliver c.args.pid c.args.signo) c.in-Err.ensures.refused

pub returns-in-Ok : goal.returns-in-Ok
returns-in-Ok c =
    c.refusal_of_runner.ensures ∙ ap (λ (delivers : Bool). own_refusal (view_of c.args.content.now) c.args.pid.0 delivers) c.eq.ensures
    ∙ who_runs c.laws.ensures c.args.content.now c.args.pid c.requires.shaped c.in-Ok.actor (Deliver c.args.pid c.args.signo) None
    (c.in-Ok.ensures.ok) (c.in-Ok.ensures.same).0 (c.in-Ok.ensures.same).1 (λ held. refl)
