use Rattle.std.proofs.Common.{sym, subst, ◌≡◌, ◌++◌, ◌∷◌, [], pos, ap, arith, to_z, w64, ◌∙◌, ℤ}
use Rattle.std.proofs.lemmas.Int.{ints}
use Rattle.tx_change.specs.declared.change.Change.TheVariants.{Part}
use Rattle.tx_kernel.proofs.Waited.{removal_plans, removes}
use Rattle.tx_kernel.specs.Actors.{effect_by}
use Rattle.tx_kernel.specs.Own.{answer_after}
use Rattle.tx_kernel.specs.Plans.{Plans, quiet}
use Rattle.tx_kernel.specs.declared.planned.Outcome.TheVariants.{Done}
use Rattle.tx_kernel.specs.declared.planned.Planned.{Planned}
use Rattle.tx_model.specs.State.{Proc as TheProc}
use Rattle.tx_proc.specs.declared.proc.Part.TheVariants.{Answer as SetAnswer, Register as SetRegister}
use Rattle.tx_kernel.proofs.actor.Actor.plan_removal.Goals as goal

pub returns-clause-ok : goal.returns-clause-ok
returns-clause-ok c =
    let kept : to_z w64 c.args.status ≡ pos c.args.status = omega (arith, ints) in
    let told : to_z w64 c.args.child.0 ≡ pos c.args.child.0 = omega (arith, ints) in
    subst (λ (planned : Planned). Plans c.args.self.now c.args.log.now c.push_answer.new.log planned (effect_by c.args.self.now (removes c.args.child.0 c.args.status)) (λ S. TheProc c.args.child.0 ∷ []))
    (sym (ap (λ (r : ℤ). quiet (Done r)) told))
    (removal_plans c.laws.ensures c.args.self.now c.args.child c.args.status c.args.log.now c.push.new.self c.push-2.new.log c.push_answer.new.log c.sized.ensures c.requires.actor c.requires.ended
    c.in_ok-push.ensures.ok
    (c.in_ok-push-2.ensures.ok ∙ ap (λ (v : ℤ). c.push.new.self ++ Part c.args.self.now.pid (SetRegister (record { number = 0; value = v })) ∷ []) kept)
    (c.in_ok-push_answer.ensures.ok ∙ ap (λ (v : ℤ). c.push-2.new.log ++ Part c.args.self.now.pid (SetAnswer (answer_after v c.args.self.now)) ∷ []) told))
