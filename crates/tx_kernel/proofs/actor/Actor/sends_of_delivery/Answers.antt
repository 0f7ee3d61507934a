use Rattle.std.proofs.Common.{◌≡◌, true, false, ◌∙◌, ap, sym}
use Rattle.tx_change.specs.States.{state_of}
use Rattle.tx_kernel.proofs.SentBy.{ending_sends, fatal_delivery, sends_same, silent_delivery, silent_sends}
use Rattle.tx_kernel.specs.Actors.{caller_of, effect_by, inside_of, me_of}
use Rattle.tx_model.specs.Deliveries.{delivered_value, delivery, ends_by, killed_status, without_delivered}
use Rattle.tx_model.specs.Forms.{caller, effect_of}
use Rattle.tx_model.specs.Processes.{ending}
use Rattle.tx_kernel.proofs.actor.Actor.sends_of_delivery.Goals as goal

pub returns-then-not-is_ended_by : goal.returns-then-not-is_ended_by
returns-then-not-is_ended_by c =
    let actor = c.args.self.now in
    let me = me_of actor in
    let signo = c.args.signo.0 in
    let stays : ends_by (inside_of actor.inside) signo me (delivered_value signo me) ≡ false = sym c.is_ended_by.ensures ∙ c.if-not-is_ended_by.true in
    silent_sends actor (effect_by actor (delivery signo)) (λ held. silent_delivery (caller_of actor (state_of held actor.parts.now)) signo (delivered_value signo me) stays)

pub returns : goal.returns
returns c =
    let actor = c.args.self.now in
    let me = me_of actor in
    let signo = c.args.signo.0 in
    let ends : ends_by (inside_of actor.inside) signo me (delivered_value signo me) ≡ true = sym c.is_ended_by.ensures ∙ c.if-not-is_ended_by.false in
    sends_same actor c.tells_parent.result (λ S. ending (killed_status signo) (caller (inside_of actor.inside) actor.pid.0 (without_delivered signo me) S))
    (effect_by actor (delivery signo))
    (λ held counted. sym (ap (effect_of actor.pid.0 me) (fatal_delivery (caller_of actor (state_of held actor.parts.now)) signo (delivered_value signo me) ends)))
    (ending_sends actor c.tells_parent.result (killed_status signo) (without_delivered signo me) c.tells_parent.ensures.at_once c.tells_parent.ensures.at_commit)
