use Rattle.std.proofs.Common.{pos, sym, subst, rules}
use Rattle.std.proofs.lemmas.Int.{to_z-of_z}
use Rattle.std.specs.Int.{w64}
use Rattle.std.specs.Prelude.{FitsSigned}
use Rattle.tx_base.specs.declared.steps.Call.{Call}
use Rattle.tx_change.specs.States.{state_of}
use Rattle.tx_kernel.proofs.SentBy.{sends_same, sent_sends, silent_call, silent_sends}
use Rattle.tx_kernel.specs.Actors.{effect_by, inside_of, me_of}
use Rattle.tx_kernel.specs.Sends.{IsSentBy, sends_by, sent}
use Rattle.tx_kernel.specs.declared.actor.Actor.{Actor}
use Rattle.tx_kernel.specs.declared.planned.Sends.{Sends}
use Rattle.tx_model.specs.Book.{page_of_call, sigqueue}
use Rattle.tx_kernel.proofs.actor.Actor.sends_of_call.Goals as goal

-- the signal is what the call sends
abbrev IsSentByCall : Actor → Sends → Call → Type 0
IsSentByCall actor sends call = IsSentBy actor sends (effect_by actor (page_of_call call).outcome)

pub returns-in-Kill : goal.returns-in-Kill
returns-in-Kill c =
    let actor = c.args.self.now in
    let fits_target : FitsSigned w64 c.in-Kill.target = search rules in
    let fits_signo : FitsSigned w64 c.in-Kill.signo = search rules in
    subst (IsSentByCall actor c.sends.result) (sym c.in-Kill.is)
    (subst (λ (sends : Sends). IsSentBy actor sends (effect_by actor (sigqueue c.in-Kill.target c.in-Kill.signo (pos 0)))) (sym c.sends.ensures)
    (sends_same actor (sends_by c.decide_send.result) (effect_by actor (sent c.decide_send.result)) (effect_by actor (sigqueue c.in-Kill.target c.in-Kill.signo (pos 0)))
    (λ held counted. sym (simp (to_z-of_z w64 c.in-Kill.target fits_target, to_z-of_z w64 c.in-Kill.signo fits_signo) at (c.decide_send.ensures.effect held counted)))
    (sent_sends actor c.decide_send.result)))

pub returns-in-Sigqueue : goal.returns-in-Sigqueue
returns-in-Sigqueue c =
    let actor = c.args.self.now in
    let fits_target : FitsSigned w64 c.in-Sigqueue.target = search rules in
    let fits_signo : FitsSigned w64 c.in-Sigqueue.signo = search rules in
    let fits_value : FitsSigned w64 c.in-Sigqueue.value = search rules in
    let send = c.decide_send-in-Sigqueue.result in
    subst (IsSentByCall actor c.sends-in-Sigqueue.result) (sym c.in-Sigqueue.is)
    (subst (λ (sends : Sends). IsSentBy actor sends (effect_by actor (sigqueue c.in-Sigqueue.target c.in-Sigqueue.signo c.in-Sigqueue.value))) (sym c.sends-in-Sigqueue.ensures)
    (sends_same actor (sends_by send) (effect_by actor (sent send)) (effect_by actor (sigqueue c.in-Sigqueue.target c.in-Sigqueue.signo c.in-Sigqueue.value))
    (λ held counted. sym (simp (to_z-of_z w64 c.in-Sigqueue.target fits_target, to_z-of_z w64 c.in-Sigqueue.signo fits_signo, to_z-of_z w64 c.in-Sigqueue.value fits_value) at
    (c.decide_send-in-Sigqueue.ensures.effect held counted)))
    (sent_sends actor send)))

pub returns-in-Exit : goal.returns-in-Exit
returns-in-Exit c = subst (IsSentByCall c.args.self.now c.sends_of_exit.result) (sym c.in-Exit.is) (c.sends_of_exit.ensures c.in-Exit.field-0)

pub returns-in-Write : goal.returns-in-Write
returns-in-Write c =
    let fits_fd : FitsSigned w64 c.in-Write.fd = search rules in
    let fits_address : FitsSigned w64 c.in-Write.address = search rules in
    let fits_count : FitsSigned w64 c.in-Write.count = search rules in
    subst (IsSentByCall c.args.self.now c.sends_of_write.result) (sym c.in-Write.is)
    (simp (to_z-of_z w64 c.in-Write.fd fits_fd, to_z-of_z w64 c.in-Write.address fits_address, to_z-of_z w64 c.in-Write.count fits_count) at c.sends_of_write.ensures)

pub returns-in_default : goal.returns-in_default
returns-in_default c =
    let actor = c.args.self.now in
    silent_sends actor (effect_by actor (page_of_call c.args.call.now).outcome)
    (λ held. silent_call c.own_calls.ensures (inside_of actor.inside) actor.pid.0 c.args.call.now (me_of actor) (state_of held actor.parts.now)
    (record { kill = c.in_default.not-Kill; sigqueue = c.in_default.not-Sigqueue; exit = c.in_default.not-Exit; write = c.in_default.not-Write }))
