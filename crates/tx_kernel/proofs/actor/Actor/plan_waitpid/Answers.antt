use Rattle.std.proofs.Common.{List, ◌≡◌, ℤ, None, length, w64, subst, ap, refl, if◌then◌else◌, Bool, ◌∷◌, [], pos, ◌∙◌}
use Rattle.std.proofs.lemmas.Int.{to_z-of_z}
use Rattle.std.proofs.lemmas.Result.{IfOk-weaker}
use Rattle.tx_base.specs.declared.errors.Errno.TheVariants.{NoChild}
use Rattle.tx_base.specs.declared.steps.Refusal.TheVariants.{Wait}
use Rattle.tx_kernel.proofs.Waited.{child_ended, child_names, ended_is, found_child, no_child, page_plans, running_is, wait_names}
use Rattle.tx_kernel.specs.Actors.{effect_by}
use Rattle.tx_kernel.specs.Plans.{Plans, quiet}
use Rattle.tx_kernel.specs.Trees.{child_at}
use Rattle.tx_model.specs.Book.{waitpid}
use Rattle.tx_model.specs.Forms.{answers, fails, refuses}
use Rattle.tx_model.specs.Processes.{pid_of}
use Rattle.tx_model.specs.State.{Object, State, Proc as TheProc}
use Rattle.tx_kernel.proofs.actor.Actor.plan_waitpid.Goals as goal

pub returns-in_default-clause-ok : goal.returns-in_default-clause-ok
returns-in_default-clause-ok c =
    let actor = c.args.self.now in
    let names : State → List Object = wait_names actor c.args.number in
    let none : None ≡ child_at actor.pid.0 actor.parts.now.procs (pid_of (length actor.parts.now.procs) c.args.number)
    = subst (λ (z : ℤ). None ≡ child_at actor.pid.0 actor.parts.now.procs (pid_of (length actor.parts.now.procs) z)) (to_z-of_z w64 c.args.number c.ranges.number) c.in_default.ensures in
    IfOk-weaker c.plan_failure.result (λ outcome. (objects : State → List Object) → Plans actor c.args.log.now c.plan_failure.new.log (quiet outcome) (effect_by actor (λ d. fails NoChild)) objects)
    (λ outcome. Plans actor c.args.log.now c.plan_failure.new.log (quiet outcome) (effect_by actor (waitpid c.args.number c.args.nohang)) names)
    (λ outcome plans. page_plans actor c.args.log.now c.plan_failure.new.log (quiet outcome) c.args.number c.args.nohang (fails NoChild) names
    (λ held. no_child actor c.args.number c.args.nohang held none) (λ held. refl) (plans names))
    c.plan_failure.ensures.ok

pub plan_removal-requires-clause-ended : goal.plan_removal-requires-clause-ended
plan_removal-requires-clause-ended c =
    let actor = c.args.self.now in
    child_ended actor c.args.number c.in-Some.child c.in-Some-status.status
    (found_child actor.pid.0 actor.parts.now.procs (length actor.parts.now.procs) c.args.number c.in-Some.child c.ranges.number c.in-Some.ensures) c.in-Some-status.is

pub returns-in_ok-plan_removal-in-Some-status-clause-ok : goal.returns-in_ok-plan_removal-in-Some-status-clause-ok
returns-in_ok-plan_removal-in-Some-status-clause-ok c =
    let actor = c.args.self.now in
    let child = c.in-Some.child in
    let is = found_child actor.pid.0 actor.parts.now.procs (length actor.parts.now.procs) c.args.number child c.ranges.number c.in-Some.ensures in
    page_plans actor c.args.log.now c.plan_removal.new.log (quiet c.in_ok-plan_removal-in-Some-status.field-0) c.args.number c.args.nohang _ (λ S. TheProc child.pid.0 ∷ [])
    (λ held. ended_is actor c.args.number c.args.nohang held child c.in-Some-status.status is c.in-Some-status.is) (λ held. child_names actor c.args.number child held is)
    c.in_ok-plan_removal-in-Some-status.ensures.ok

pub returns-in-None-clause-ok : goal.returns-in-None-clause-ok
returns-in-None-clause-ok c =
    let actor = c.args.self.now in
    let child = c.in-Some.child in
    let one : State → List Object = λ S. TheProc child.pid.0 ∷ [] in
    let is = found_child actor.pid.0 actor.parts.now.procs (length actor.parts.now.procs) c.args.number child c.ranges.number c.in-Some.ensures in
    IfOk-weaker c.plan_done.result (λ outcome. (objects : State → List Object) → Plans actor c.args.log.now c.plan_done.new.log (quiet outcome) (effect_by actor (λ d. answers (pos 0))) objects)
    (λ outcome. Plans actor c.args.log.now c.plan_done.new.log (quiet outcome) (effect_by actor (waitpid c.args.number c.args.nohang)) (wait_names actor c.args.number))
    (λ outcome plans. page_plans actor c.args.log.now c.plan_done.new.log (quiet outcome) c.args.number c.args.nohang (answers (pos 0)) one
    (λ held. running_is actor c.args.number c.args.nohang held child is c.in-None.is ∙ ap (λ (b : Bool). if b then answers (pos 0) else refuses Wait) c.if-nohang.true)
    (λ held. child_names actor c.args.number child held is) (plans one))
    c.plan_done.ensures.ok
