use Rattle.std.proofs.Common.{w64, to_z, of_z, ap, sym, Ok}
use Rattle.std.proofs.lemmas.Int.{to_z-of_z}
use Rattle.tx_kernel.proofs.SentBy.{done_sends, sends_same}
use Rattle.tx_kernel.specs.Actors.{effect_by, me_of}
use Rattle.tx_kernel.specs.Piped.{writing_outcome}
use Rattle.tx_kernel.specs.declared.planned.Sends.TheVariants.{Nothing}
use Rattle.tx_model.specs.Book.{write}
use Rattle.tx_model.specs.Forms.{effect_of, fails}
use Rattle.tx_model.specs.Numbers.{error_answer}
use Rattle.tx_kernel.proofs.actor.Actor.sends_of_write.Goals as goal

pub returns-in-Ok : goal.returns-in-Ok
returns-in-Ok c =
    let actor = c.args.self.now in
    sends_same actor c.sends_of.result (effect_by actor (writing_outcome (to_z w64 (of_z w64 c.args.address)) (Ok c.in-Ok.writing))) (effect_by actor (write c.args.fd c.args.address c.args.count))
    (λ held counted. sym (ap (effect_of actor.pid.0 (me_of actor)) (simp (to_z-of_z w64 c.args.fd c.ranges.fd, to_z-of_z w64 c.args.address c.ranges.address, to_z-of_z w64 c.args.count c.ranges.count) at
    (c.in-Ok.ensures.effect held))))
    (c.sends_of.ensures (to_z w64 (of_z w64 c.args.address)))

pub returns-in-Err : goal.returns-in-Err
returns-in-Err c =
    let actor = c.args.self.now in
    sends_same actor Nothing (effect_by actor (λ d. fails c.in-Err.field-0)) (effect_by actor (write c.args.fd c.args.address c.args.count))
    (λ held counted. sym (ap (effect_of actor.pid.0 (me_of actor)) (simp (to_z-of_z w64 c.args.fd c.ranges.fd, to_z-of_z w64 c.args.address c.ranges.address, to_z-of_z w64 c.args.count c.ranges.count) at
    (c.in-Err.ensures.effect held))))
    (done_sends actor (error_answer c.in-Err.field-0))
