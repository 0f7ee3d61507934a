use Rattle.std.proofs.Common.{IfErr, IfOk, sym, subst}
use Rattle.tx_kernel.proofs.Made.{of_call, of_delivery, plans_as, refuses_as, refuses_delivery}
use Rattle.tx_kernel.specs.Actors.{inside_of}
use Rattle.tx_kernel.specs.Acts.{PlansEvent, RefusesEvent, event_of}
use Rattle.tx_kernel.specs.declared.events.Act.{Act}
use Rattle.tx_model.specs.Book.{page_of_call}
use Rattle.tx_model.specs.Deliveries.{delivery_page}
use Rattle.tx_model.specs.Words.{chosen_in}
use Rattle.tx_kernel.proofs.actor.Actor.plan.Goals as goal

pub returns-in-Call-clause-ok : goal.returns-in-Call-clause-ok
returns-in-Call-clause-ok c =
    let actor = c.args.self.now in
    subst (λ (act : Act). IfOk c.plan_call.result (λ outcome. PlansEvent actor c.args.log.now c.plan_call.new.log (record { outcome = outcome; sends = c.plan_call.new.sends }) (event_of (inside_of actor.inside) actor.pid act))) (sym c.in-Call.is)
    (plans_as actor (page_of_call c.in-Call.call.now) _ (of_call c.in-Call.call.now) c.args.log.now c.plan_call.new.log c.plan_call.new.sends c.requires c.plan_call.result c.plan_call.ensures.ok)

pub returns-in-Call-clause-refused : goal.returns-in-Call-clause-refused
returns-in-Call-clause-refused c =
    let actor = c.args.self.now in
    subst (λ (act : Act). IfErr c.plan_call.result (λ why. RefusesEvent actor.parts.now actor.inside (event_of (inside_of actor.inside) actor.pid act) why)) (sym c.in-Call.is)
    (refuses_as actor (page_of_call c.in-Call.call.now) _ (of_call c.in-Call.call.now) c.requires (chosen_in c.in-Call.call.now) c.plan_call.result c.plan_call.ensures.refused)

pub returns-in-Delivery-clause-ok : goal.returns-in-Delivery-clause-ok
returns-in-Delivery-clause-ok c =
    let actor = c.args.self.now in
    subst (λ (act : Act). IfOk c.plan_delivery.result (λ outcome. PlansEvent actor c.args.log.now c.plan_delivery.new.log (record { outcome = outcome; sends = c.plan_delivery.new.sends }) (event_of (inside_of actor.inside) actor.pid act))) (sym c.in-Delivery.is)
    (plans_as actor (delivery_page c.in-Delivery.signo.0) _ (of_delivery c.in-Delivery.signo) c.args.log.now c.plan_delivery.new.log c.plan_delivery.new.sends c.requires c.plan_delivery.result c.plan_delivery.ensures.ok)

pub returns-in-Delivery-clause-refused : goal.returns-in-Delivery-clause-refused
returns-in-Delivery-clause-refused c =
    let actor = c.args.self.now in
    subst (λ (act : Act). IfErr c.plan_delivery.result (λ why. RefusesEvent actor.parts.now actor.inside (event_of (inside_of actor.inside) actor.pid act) why)) (sym c.in-Delivery.is)
    (refuses_delivery actor c.in-Delivery.signo c.requires c.plan_delivery.result c.plan_delivery.ensures.refused)
