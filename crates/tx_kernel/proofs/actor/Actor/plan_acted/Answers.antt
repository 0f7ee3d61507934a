use Rattle.std.proofs.Common.{◌≡◌, ◌∙◌, ℤ, IfOk, w64, ap, sym, subst, arith}
use Rattle.std.proofs.lemmas.Int.{to_z-of_z}
use Rattle.tx_base.specs.declared.signals.Action.TheVariants.{Catch}
use Rattle.tx_base.specs.declared.steps.Reply.TheVariants.{Done}
use Rattle.tx_kernel.proofs.Delivered.{acted, acting, acting_objects, catching, caught_acted, caught_low, fatal_is, full_refuses, ignored_is}
use Rattle.tx_kernel.proofs.OwnPlans.{own_plans}
use Rattle.tx_kernel.proofs.Returned.{sized_actor}
use Rattle.tx_kernel.specs.Actors.{effect_by, me_of}
use Rattle.tx_kernel.specs.Own.{PlansOwn}
use Rattle.tx_kernel.specs.Plans.{Plans}
use Rattle.tx_model.specs.Deliveries.{action_at, without_delivered}
use Rattle.tx_model.specs.Forms.{stands}
use Rattle.tx_model.specs.Signals.{Disposition, Ignored, Fatal, Caught, disposition}
use Rattle.tx_kernel.proofs.actor.Actor.plan_acted.Goals as goal

pub returns-then-is_ignored-clause-ok : goal.returns-then-is_ignored-clause-ok
returns-then-is_ignored-clause-ok c =
    let actor = c.args.self.now in
    let action : c.get-action.result ≡ action_at c.args.signo.0 (me_of actor) = c.get-action.ensures (me_of actor) in
    let what : disposition c.args.signo.0 (action_at c.args.signo.0 (me_of actor)) ≡ Ignored
    = ap (disposition c.args.signo.0) (sym action) ∙ ignored_is c.args.signo.0 c.get-action.result (sym c.is_ignored.ensures ∙ c.if-is_ignored.true) in
    acted actor c.args.log.now c.plan_ignored.new.log c.quiet.result c.args.signo.0 c.args.value Ignored _ what
    (rw c.quiet.ensures (own_plans c.laws.ensures actor c.args.log.now c.plan_ignored.new.log c.in_ok-outcome.outcome
    (effect_by actor (λ d. stands (without_delivered c.args.signo.0 d.process) (Done d.process.registers.ret))) (acting_objects actor Ignored) c.sized.ensures c.requires.actor c.in_ok-outcome.ensures.ok))

pub returns-in_default-clause-ok : goal.returns-in_default-clause-ok
returns-in_default-clause-ok c =
    let actor = c.args.self.now in
    let action : c.get-action.result ≡ action_at c.args.signo.0 (me_of actor) = c.get-action.ensures (me_of actor) in
    let what : Fatal ≡ disposition c.args.signo.0 (action_at c.args.signo.0 (me_of actor))
    = sym (ap (disposition c.args.signo.0) (sym action) ∙ fatal_is c.args.signo.0 c.get-action.result (sym c.is_ignored.ensures ∙ c.if-is_ignored.false) c.in_default.not-Catch) in
    subst (λ (is : Disposition). IfOk c.plan_ending.result (λ planned. Plans actor c.args.log.now c.plan_ending.new.log planned (acting actor c.args.signo.0 c.args.value is) (acting_objects actor is)))
    what c.plan_ending.ensures.ok

pub returns-then-is_full-clause-refused : goal.returns-then-is_full-clause-refused
returns-then-is_full-clause-refused c =
    let actor = c.args.self.now in
    let action : action_at c.args.signo.0 (me_of actor) ≡ Catch c.in-Catch.point c.in-Catch.mask = sym (c.get-action.ensures (me_of actor)) ∙ c.in-Catch.is in
    full_refuses actor c.args.signo.0 c.args.value c.in-Catch.point c.in-Catch.mask _ (ap (disposition c.args.signo.0) action) (sym (c.is_full.ensures (me_of actor)) ∙ c.if-is_full.true)

pub plan_caught-requires-clause-number : goal.plan_caught-requires-clause-number
plan_caught-requires-clause-number c =
    let actor = c.args.self.now in
    omega (arith, caught_low actor.proc.now.actions c.args.signo.0 c.in-Catch.point c.in-Catch.mask (sized_actor actor c.requires.actor).actions (sym (c.get-action.ensures (me_of actor)) ∙ c.in-Catch.is))

pub plan_caught-requires-clause-room : goal.plan_caught-requires-clause-room
plan_caught-requires-clause-room c = sym (c.is_full.ensures (me_of c.args.self.now)) ∙ c.if-is_full.false

pub returns-clause-ok : goal.returns-clause-ok
returns-clause-ok c =
    let actor = c.args.self.now in
    let action : action_at c.args.signo.0 (me_of actor) ≡ Catch c.in-Catch.point c.in-Catch.mask = sym (c.get-action.ensures (me_of actor)) ∙ c.in-Catch.is in
    let what : Disposition = Caught c.in-Catch.point c.in-Catch.mask in
    acted actor c.args.log.now c.plan_caught.new.log c.quiet-2.result c.args.signo.0 c.args.value what _ (ap (disposition c.args.signo.0) action)
    (rw c.quiet-2.ensures (caught_acted c.laws.ensures actor c.args.log.now c.plan_caught.new.log c.in_ok-outcome-2.outcome c.args.signo.0 c.args.value c.in-Catch.point c.in-Catch.mask
    c.sized.ensures c.requires.actor (sym (c.is_full.ensures (me_of actor)) ∙ c.if-is_full.false)
    (subst (λ (value : ℤ). PlansOwn actor c.args.log.now c.plan_caught.new.log c.in_ok-outcome-2.outcome
    (effect_by actor (catching c.args.signo.0 value c.in-Catch.point c.in-Catch.mask)))
    (to_z-of_z w64 c.args.value c.ranges.value) c.in_ok-outcome-2.ensures.ok)))
