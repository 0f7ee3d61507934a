use Rattle.std.proofs.Common.{ℤ, List, subst, ◌∙◌, IfOk, w64}
use Rattle.std.proofs.lemmas.Int.{to_z-of_z}
use Rattle.tx_kernel.specs.Actors.{effect_by}
use Rattle.tx_kernel.specs.Plans.{Plans, quiet}
use Rattle.tx_model.specs.Forms.{answers}
use Rattle.tx_model.specs.State.{Object, State}
use Rattle.tx_kernel.proofs.actor.Actor.plan_failure.Goals as goal

pub returns-clause-ok : goal.returns-clause-ok
returns-clause-ok c =
    let same = to_z-of_z w64 c.answer.result (record { sfits = c.answer.type_inv }) in
    subst (λ (ret : ℤ). IfOk c.plan_done.result (λ outcome. (objects : State → List Object) →
    Plans c.args.self.now c.args.log.now c.plan_done.new.log (quiet outcome) (effect_by c.args.self.now (λ d. answers ret)) objects))
    (same ∙ c.answer.ensures) c.plan_done.ensures.ok
