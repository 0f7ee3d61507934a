use Rattle.std.proofs.Common.{w64}
use Rattle.std.proofs.lemmas.Int.{to_z-of_z}
use Rattle.tx_kernel.proofs.Refused.{made_of, tells_made, tells_wait, wait_of}
use Rattle.tx_kernel.specs.Actors.{effect_by}
use Rattle.tx_model.specs.Book.{read}
use Rattle.tx_kernel.proofs.actor.Actor.waits_to_read.Goals as goal

pub returns-in-Ok-Waits : goal.returns-in-Ok-Waits
returns-in-Ok-Waits c =
    let actor = c.args.self.now in
    tells_wait actor (effect_by actor (read c.args.fd c.args.address c.args.count)) (λ held counted. wait_of actor
    (simp (to_z-of_z w64 c.args.fd c.ranges.fd, to_z-of_z w64 c.args.address c.ranges.address, to_z-of_z w64 c.args.count c.ranges.count) at (rw c.in-Ok-Waits.field-0-is at (c.in-Ok-Waits.ensures.effect held))))

pub returns-in-Ok-Nothing : goal.returns-in-Ok-Nothing
returns-in-Ok-Nothing c =
    let actor = c.args.self.now in
    tells_made actor (effect_by actor (read c.args.fd c.args.address c.args.count)) (λ held counted. made_of actor _
    (simp (to_z-of_z w64 c.args.fd c.ranges.fd, to_z-of_z w64 c.args.address c.ranges.address, to_z-of_z w64 c.args.count c.ranges.count) at (rw c.in-Ok-Nothing.field-0-is at (c.in-Ok-Nothing.ensures.effect held))) (λ rs. tt))

pub returns-in-Ok-Takes : goal.returns-in-Ok-Takes
returns-in-Ok-Takes c =
    let actor = c.args.self.now in
    tells_made actor (effect_by actor (read c.args.fd c.args.address c.args.count)) (λ held counted. made_of actor _
    (simp (to_z-of_z w64 c.args.fd c.ranges.fd, to_z-of_z w64 c.args.address c.ranges.address, to_z-of_z w64 c.args.count c.ranges.count) at (rw c.in-Ok-Takes.field-0-is at (c.in-Ok-Takes.ensures.effect held))) (λ rs. tt))

pub returns-in-Err : goal.returns-in-Err
returns-in-Err c =
    let actor = c.args.self.now in
    tells_made actor (effect_by actor (read c.args.fd c.args.address c.args.count)) (λ held counted. made_of actor _
    (simp (to_z-of_z w64 c.args.fd c.ranges.fd, to_z-of_z w64 c.args.address c.ranges.address, to_z-of_z w64 c.args.count c.ranges.count) at (c.in-Err.ensures.effect held)) (λ rs. tt))
