use Rattle.std.proofs.Common.{ap, arith, pos, w64}
use Rattle.std.proofs.lemmas.Int.{to_z-of_z, to_z_pos}
use Rattle.tx_kernel.proofs.NamedCalls.{done_plan}
use Rattle.tx_kernel.proofs.PipedCalls.{take_plan}
use Rattle.tx_kernel.specs.Actors.{effect_by, me_of, names_by}
use Rattle.tx_model.specs.Book.{desc_and_pipe_of, read}
use Rattle.tx_model.specs.Forms.{effect_of}
use Rattle.tx_model.specs.Numbers.{error_answer}
use Rattle.tx_kernel.proofs.actor.Actor.plan_read.Goals as goal

pub returns-in-Ok-Nothing-clause-ok : goal.returns-in-Ok-Nothing-clause-ok
returns-in-Ok-Nothing-clause-ok c =
    let me = c.args.self.now in
    done_plan c.plan_done.result me c.args.log.now c.plan_done.new.log (pos 0) (effect_by me (read c.args.fd c.args.address c.args.count)) (names_by me (desc_and_pipe_of c.args.fd))
    (λ held. ap (effect_of me.pid.0 (me_of me)) (simp (to_z-of_z w64 c.args.fd c.ranges.fd, to_z-of_z w64 c.args.address c.ranges.address, to_z-of_z w64 c.args.count c.ranges.count) at
    (rw c.in-Ok-Nothing.field-0-is at (c.in-Ok-Nothing.ensures.effect held)))) c.plan_done.ensures.ok

pub returns-in_ok-push_answer-in-Ok-Takes-clause-ok : goal.returns-in_ok-push_answer-in-Ok-Takes-clause-ok
returns-in_ok-push_answer-in-Ok-Takes-clause-ok c =
    let me = c.args.self.now in
    let ready = simp (to_z-of_z w64 c.args.fd c.ranges.fd) at (rw c.in-Ok-Takes.field-0-is at c.in-Ok-Takes.ensures.ready) in
    let held = ready.1.held in
    let fits = ready.1.fits in
    let as_ret = to_z_pos w64 c.in-Ok-Takes.n (omega (arith, held, fits)) in
    rw as_ret (take_plan c.laws.ensures me c.args.log.now c.push_take.new.log c.push_answer.new.log c.args.fd c.args.address c.args.count c.in-Ok-Takes.pipe c.in-Ok-Takes.n c.sized.ensures c.requires
    (λ held. simp (to_z-of_z w64 c.args.fd c.ranges.fd, to_z-of_z w64 c.args.address c.ranges.address, to_z-of_z w64 c.args.count c.ranges.count) at
    (rw c.in-Ok-Takes.field-0-is at (c.in-Ok-Takes.ensures.effect held))) ready.0 ready.1
    (simp (to_z-of_z w64 c.args.address c.ranges.address) at c.in_ok-push_take-in-Ok-Takes.ensures.ok) (rw as_ret at c.in_ok-push_answer-in-Ok-Takes.ensures.ok))

pub returns-in-Err-clause-ok : goal.returns-in-Err-clause-ok
returns-in-Err-clause-ok c =
    let me = c.args.self.now in
    done_plan c.plan_failure.result me c.args.log.now c.plan_failure.new.log (error_answer c.in-Err.errno) (effect_by me (read c.args.fd c.args.address c.args.count)) (names_by me (desc_and_pipe_of c.args.fd))
    (λ held. ap (effect_of me.pid.0 (me_of me)) (simp (to_z-of_z w64 c.args.fd c.ranges.fd, to_z-of_z w64 c.args.address c.ranges.address, to_z-of_z w64 c.args.count c.ranges.count) at
    (c.in-Err.ensures.effect held))) c.plan_failure.ensures.ok
