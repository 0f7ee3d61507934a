use Rattle.std.proofs.Common.{Ok, ap, arith, pos, w64}
use Rattle.std.proofs.lemmas.Int.{to_z-of_z, to_z_pos}
use Rattle.tx_base.specs.declared.steps.Refusal.{Refusal}
use Rattle.tx_kernel.proofs.NamedCalls.{done_plan}
use Rattle.tx_kernel.proofs.PipedCalls.{put_plan, broken_plan}
use Rattle.tx_kernel.specs.Actors.{effect_by, me_of, names_by}
use Rattle.tx_model.specs.Book.{desc_and_pipe_of, write}
use Rattle.tx_model.specs.Forms.{effect_of}
use Rattle.tx_model.specs.Numbers.{error_answer}
use Rattle.tx_kernel.proofs.actor.Actor.plan_write.Goals as goal

pub returns-in_ok-plan_done-in-Ok-Nothing-clause-ok : goal.returns-in_ok-plan_done-in-Ok-Nothing-clause-ok
returns-in_ok-plan_done-in-Ok-Nothing-clause-ok c =
    let me = c.args.self.now in
    rw c.quiet.ensures (done_plan {E = Refusal} (Ok c.in_ok-plan_done-in-Ok-Nothing.field-0) me c.args.log.now c.plan_done.new.log (pos 0) (effect_by me (write c.args.fd c.args.address c.args.count)) (names_by me (desc_and_pipe_of c.args.fd))
    (λ held. ap (effect_of me.pid.0 (me_of me)) (simp (to_z-of_z w64 c.args.fd c.ranges.fd, to_z-of_z w64 c.args.address c.ranges.address, to_z-of_z w64 c.args.count c.ranges.count) at
    (rw c.in-Ok-Nothing.field-0-is at (c.in-Ok-Nothing.ensures.effect held)))) c.in_ok-plan_done-in-Ok-Nothing.ensures.ok)

pub returns-in_ok-push_broken-in-Ok-Breaks-clause-ok : goal.returns-in_ok-push_broken-in-Ok-Breaks-clause-ok
returns-in_ok-push_broken-in-Ok-Breaks-clause-ok c =
    let me = c.args.self.now in
    let made = c.in_ok-push_broken-in-Ok-Breaks.ensures.ok in
    rw made.1 (broken_plan c.laws.ensures me c.args.log.now c.push_broken.new.log c.args.fd c.args.address c.args.count c.sized.ensures c.requires
    (λ held. simp (to_z-of_z w64 c.args.fd c.ranges.fd, to_z-of_z w64 c.args.address c.ranges.address, to_z-of_z w64 c.args.count c.ranges.count) at
    (rw c.in-Ok-Breaks.field-0-is at (c.in-Ok-Breaks.ensures.effect held))) made.0)

pub returns-in_ok-push_answer-in-Ok-Puts-clause-ok : goal.returns-in_ok-push_answer-in-Ok-Puts-clause-ok
returns-in_ok-push_answer-in-Ok-Puts-clause-ok c =
    let me = c.args.self.now in
    let ready = simp (to_z-of_z w64 c.args.fd c.ranges.fd, to_z-of_z w64 c.args.address c.ranges.address) at (rw c.in-Ok-Puts.field-0-is at c.in-Ok-Puts.ensures.ready) in
    let room = ready.1.room in
    let as_ret = to_z_pos w64 c.in-Ok-Puts.n (omega (arith, room)) in
    rw (c.quiet-in-Ok-Puts.ensures, as_ret) (put_plan c.laws.ensures me c.args.log.now c.push_put.new.log c.push_answer.new.log c.args.fd c.args.address c.args.count c.in-Ok-Puts.pipe c.in-Ok-Puts.n c.sized.ensures c.requires
    (λ held. simp (to_z-of_z w64 c.args.fd c.ranges.fd, to_z-of_z w64 c.args.address c.ranges.address, to_z-of_z w64 c.args.count c.ranges.count) at
    (rw c.in-Ok-Puts.field-0-is at (c.in-Ok-Puts.ensures.effect held))) ready.0 ready.1
    (simp (to_z-of_z w64 c.args.address c.ranges.address) at c.in_ok-push_put-in-Ok-Puts.ensures.ok) (rw as_ret at c.in_ok-push_answer-in-Ok-Puts.ensures.ok))

pub returns-in_ok-plan_failure-in-Err-clause-ok : goal.returns-in_ok-plan_failure-in-Err-clause-ok
returns-in_ok-plan_failure-in-Err-clause-ok c =
    let me = c.args.self.now in
    rw c.quiet-in-Err.ensures (done_plan {E = Refusal} (Ok c.in_ok-plan_failure-in-Err.field-0) me c.args.log.now c.plan_failure.new.log (error_answer c.in-Err.errno) (effect_by me (write c.args.fd c.args.address c.args.count)) (names_by me (desc_and_pipe_of c.args.fd))
    (λ held. ap (effect_of me.pid.0 (me_of me)) (simp (to_z-of_z w64 c.args.fd c.ranges.fd, to_z-of_z w64 c.args.address c.ranges.address, to_z-of_z w64 c.args.count c.ranges.count) at
    (c.in-Err.ensures.effect held))) c.in_ok-plan_failure-in-Err.ensures.ok)
