use Rattle.std.proofs.Common.{ℤ, List, rules, refl, ap, sym, subst, w64, ◌∙◌}
use Rattle.std.proofs.lemmas.Int.{to_z-of_z}
use Rattle.std.specs.Prelude.{FitsSigned}
use Rattle.tx_kernel.proofs.Beside.{plans_same}
use Rattle.tx_kernel.proofs.OwnPlans.{own_plans}
use Rattle.tx_kernel.proofs.Sent.{holds_plans}
use Rattle.tx_kernel.proofs.StepPlans.{quiet_step}
use Rattle.tx_kernel.specs.Actors.{effect_by, me_of, names_by}
use Rattle.tx_kernel.specs.Plans.{quiet}
use Rattle.tx_kernel.specs.Steps.{PlansStep}
use Rattle.tx_kernel.specs.declared.planned.Planned.{Planned}
use Rattle.tx_kernel.specs.declared.planned.Sends.TheVariants.{Nothing, AtCommit}
use Rattle.tx_model.specs.Book.{sigqueue}
use Rattle.tx_model.specs.Words.{answer_effect}
use Rattle.tx_model.specs.Processes.{held_objects}
use Rattle.tx_model.specs.State.{Object, State}
use Rattle.tx_kernel.proofs.actor.Actor.plan_send.Goals as goal

pub returns-in_ok-outcome-in-Answers-clause-ok : goal.returns-in_ok-outcome-in-Answers-clause-ok
returns-in_ok-outcome-in-Answers-clause-ok c =
    let actor = c.args.self.now in
    let names : State → List Object = names_by actor (λ d. held_objects d.inside) in
    let fits : FitsSigned w64 c.in-Answers.ret = search rules in
    subst (λ (planned : Planned). PlansStep actor c.args.log.now c.plan_answer.new.log planned.outcome planned.sends (effect_by actor (sigqueue c.args.target c.args.signo c.args.value)) names)
    (sym c.quiet.ensures)
    (quiet_step actor c.args.log.now c.plan_answer.new.log c.in_ok-outcome-in-Answers.outcome Nothing _ names refl
    (plans_same actor c.args.log.now c.plan_answer.new.log (quiet c.in_ok-outcome-in-Answers.outcome) _ (effect_by actor (sigqueue c.args.target c.args.signo c.args.value)) names names
    (λ held counted. ap (λ (ret : ℤ). answer_effect actor.pid.0 ret (me_of actor)) (to_z-of_z w64 c.in-Answers.ret fits)
    ∙ sym (simp (to_z-of_z w64 c.args.target c.ranges.target, to_z-of_z w64 c.args.signo c.ranges.signo, to_z-of_z w64 c.args.value c.ranges.value) at (c.in-Answers.ensures.effect held counted)))
    (λ held. refl)
    (own_plans c.laws.ensures actor c.args.log.now c.plan_answer.new.log c.in_ok-outcome-in-Answers.outcome _ names c.sized.ensures c.requires c.in_ok-outcome-in-Answers.ensures.ok)))

pub returns-in_ok-outcome-in-Posts-clause-ok : goal.returns-in_ok-outcome-in-Posts-clause-ok
returns-in_ok-outcome-in-Posts-clause-ok c =
    let actor = c.args.self.now in
    c.in_ok-outcome-in-Posts.ensures.ok.plans _ (names_by actor (λ d. held_objects d.inside))
    (λ held counted. simp (to_z-of_z w64 c.args.target c.ranges.target, to_z-of_z w64 c.args.signo c.ranges.signo, to_z-of_z w64 c.args.value c.ranges.value) at (c.in-Posts.ensures.effect held counted))

pub returns-in_ok-outcome-in-Holds-clause-ok : goal.returns-in_ok-outcome-in-Holds-clause-ok
returns-in_ok-outcome-in-Holds-clause-ok c =
    let actor = c.args.self.now in
    let names : State → List Object = names_by actor (λ d. held_objects d.inside) in
    quiet_step actor c.args.log.now c.plan_answer-in-Holds.new.log c.in_ok-outcome-in-Holds.outcome (AtCommit c.in-Holds.sending) _ names refl
    (holds_plans c.laws.ensures actor c.args.log.now c.plan_answer-in-Holds.new.log c.in_ok-outcome-in-Holds.outcome c.in-Holds.sending _ names c.sized.ensures c.requires
    (λ held counted. simp (to_z-of_z w64 c.args.target c.ranges.target, to_z-of_z w64 c.args.signo c.ranges.signo, to_z-of_z w64 c.args.value c.ranges.value) at (c.in-Holds.ensures.effect held counted))
    c.in_ok-outcome-in-Holds.ensures.ok)
