use Rattle.std.proofs.Common.{None, sym, subst}
use Rattle.tx_base.specs.Slots.{slot_at}
use Rattle.tx_step.proofs.LateTold.{call_told, delivery_told, note_told}
use Rattle.tx_step.specs.Late.{TellsRule}
use Rattle.tx_kernel.specs.Acts.{event_of}
use Rattle.tx_kernel.specs.declared.events.Act.{Act}
use Rattle.tx_content.specs.Content.{now_of}
use Rattle.tx_model.specs.Membership.{inside_by}
use Rattle.tx_txn.specs.Marks.{table_at}
use Rattle.tx_step.proofs.late.refusal_of_rule.Goals as goal

pub returns-in-Call : goal.returns-in-Call
returns-in-Call c =
    let k = c.args.content.now in
    subst (λ (act : Act). TellsRule (event_of (inside_by (table_at k.marks) (slot_at k.marks c.args.pid.0)) c.args.pid act) (now_of k) c.refusal_of_call.result) (sym c.in-Call.is)
    (call_told k c.args.pid c.actor_of-actor.result c.actor_of-actor.ensures c.in-Call.call.now c.refusal_of_call.result
    c.refusal_of_call.ensures.refused c.refusal_of_call.ensures.accepted c.refusal_of_call.ensures.memory)

pub returns-in-Delivery : goal.returns-in-Delivery
returns-in-Delivery c =
    let k = c.args.content.now in
    subst (λ (act : Act). TellsRule (event_of (inside_by (table_at k.marks) (slot_at k.marks c.args.pid.0)) c.args.pid act) (now_of k) c.refusal_of_delivery.result) (sym c.in-Delivery.is)
    (delivery_told k c.args.pid c.actor_of-actor.result c.actor_of-actor.ensures c.in-Delivery.signo c.refusal_of_delivery.result
    c.refusal_of_delivery.ensures.refused c.refusal_of_delivery.ensures.accepted c.refusal_of_delivery.ensures.memory)

pub returns-in-Answer : goal.returns-in-Answer
returns-in-Answer c =
    let k = c.args.content.now in
    subst (λ (act : Act). TellsRule (event_of (inside_by (table_at k.marks) (slot_at k.marks c.args.pid.0)) c.args.pid act) (now_of k) None) (sym c.in-Answer.is)
    (note_told c.args.pid.0 _ (now_of k))
