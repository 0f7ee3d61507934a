use Rattle.std.proofs.Common.{◌≡◌, ◌∙◌, List, IfOk, IfErr, false, sym, subst, rules}
use Rattle.std.proofs.lemmas.Int.{to_z-of_z}
use Rattle.std.specs.Int.{w64}
use Rattle.std.specs.Prelude.{FitsSigned}
use Rattle.tx_kernel.proofs.Delivered.{acting_objects, deferred_refuses, delivers_is, names_is, none_refuses, not_first}
use Rattle.tx_kernel.specs.Actors.{inside_of, me_of, effect_by}
use Rattle.tx_kernel.specs.Plans.{Plans, RefusedBy}
use Rattle.tx_model.specs.Deliveries.{action_at, is_deferred, delivery}
use Rattle.tx_model.specs.Effects.{Effect}
use Rattle.tx_model.specs.Signals.{disposition}
use Rattle.tx_model.specs.State.{Object, State}
use Rattle.tx_kernel.proofs.actor.Actor.plan_taken.Goals as goal

pub returns-in_default-clause-refused : goal.returns-in_default-clause-refused
returns-in_default-clause-refused c = none_refuses c.args.self.now c.args.signo.0 (c.in_default.ensures (me_of c.args.self.now))

pub returns-then-is_deferred-clause-refused : goal.returns-then-is_deferred-clause-refused
returns-then-is_deferred-clause-refused c =
    let actor = c.args.self.now in
    deferred_refuses actor c.args.signo.0 c.in-Some.value (sym (c.in-Some.ensures (me_of actor))) (sym c.is_deferred.ensures ∙ c.if-is_deferred.true)

pub plan_acted-requires-clause-other : goal.plan_acted-requires-clause-other
plan_acted-requires-clause-other c = not_first c.args.self.now c.args.signo.0 c.in-Some.value c.requires (sym (c.in-Some.ensures (me_of c.args.self.now)))

pub returns-clause-ok : goal.returns-clause-ok
returns-clause-ok c =
    let actor = c.args.self.now in
    let fits : FitsSigned w64 c.in-Some.value = search rules in
    let here = sym (c.in-Some.ensures (me_of actor)) in
    let at_once : is_deferred (inside_of actor.inside) c.args.signo.0 ≡ false = sym c.is_deferred.ensures ∙ c.if-is_deferred.false in
    subst (λ (objects : State → List Object). IfOk c.plan_acted.result (λ planned. Plans actor c.args.log.now c.plan_acted.new.log planned
    (effect_by actor (delivery c.args.signo.0)) objects))
    (names_is actor c.args.signo.0 c.in-Some.value here at_once)
    (subst (λ (rule : State → Effect). IfOk c.plan_acted.result (λ planned. Plans actor c.args.log.now c.plan_acted.new.log planned rule
    (acting_objects actor (disposition c.args.signo.0 (action_at c.args.signo.0 (me_of actor))))))
    (delivers_is actor c.args.signo.0 c.in-Some.value _ here at_once (to_z-of_z w64 c.in-Some.value fits)) c.plan_acted.ensures.ok)

pub returns-clause-refused : goal.returns-clause-refused
returns-clause-refused c =
    let actor = c.args.self.now in
    let fits : FitsSigned w64 c.in-Some.value = search rules in
    let at_once : is_deferred (inside_of actor.inside) c.args.signo.0 ≡ false = sym c.is_deferred.ensures ∙ c.if-is_deferred.false in
    subst (λ (rule : State → Effect). IfErr c.plan_acted.result (λ why. RefusedBy actor why rule))
    (delivers_is actor c.args.signo.0 c.in-Some.value _ (sym (c.in-Some.ensures (me_of actor))) at_once (to_z-of_z w64 c.in-Some.value fits)) c.plan_acted.ensures.refused
