use Rattle.std.proofs.Common.{arith, refl, w64, to_z, of_z}
use Rattle.std.proofs.lemmas.Int.{to_z-of_z, to_z_pos}
use Rattle.tx_change.specs.States.{state_of}
use Rattle.tx_kernel.proofs.NamedCalls.{dup_plan, failed_plan}
use Rattle.tx_kernel.specs.Actors.{caller_of}
use Rattle.tx_model.specs.Book.{dup, desc_of}
use Rattle.tx_kernel.proofs.actor.Actor.plan_dup.Goals as goal

pub plan_dup-requires : goal.plan_dup-requires
plan_dup-requires c =
    let me = c.args.self.now in
    c.laws.ensures.room me.parts.now me.pid.0 me.proc.now.descriptors _ 1 (omega arith) c.requires.number c.requires.whole.counts c.requires.whole.places c.requires.whole.few
    (me.proc.now, c.requires.there, c.requires.runs, refl)

pub returns-in_ok-push_answer-in-Ok-clause-ok : goal.returns-in_ok-push_answer-in-Ok-clause-ok
returns-in_ok-push_answer-in-Ok-clause-ok c =
    let plan = c.in-Ok.plan in
    let below = c.in-Ok.ensures.numbers.0.0 in
    let as_ret = to_z_pos w64 plan.name.fd (omega (arith, below)) in
    rw as_ret (simp (to_z-of_z w64 c.args.fd c.ranges.fd) at (dup_plan c.laws.ensures c.args.self.now c.args.log.now c.push_name.new.log c.push_desc.new.log c.push_answer.new.log (to_z w64 (of_z w64 c.args.fd)) plan c.sized.ensures c.requires
    c.in-Ok.ensures.answer c.in-Ok.ensures.descriptions c.in-Ok.ensures.counts c.in-Ok.ensures.named c.in-Ok.ensures.numbers
    c.in_ok-push_name-in-Ok.ensures.ok c.in_ok-push_desc-in-Ok.ensures.ok (rw as_ret at c.in_ok-push_answer-in-Ok.ensures.ok)))

pub returns-in-Err-clause-ok : goal.returns-in-Err-clause-ok
returns-in-Err-clause-ok c =
    let me = c.args.self.now in
    failed_plan c.plan_failure.result me c.args.log.now c.plan_failure.new.log c.in-Err.errno (dup c.args.fd) (desc_of c.args.fd)
    (λ held. simp (to_z-of_z w64 c.args.fd c.ranges.fd) at (c.in-Err.ensures.answer (caller_of me (state_of held me.parts.now)) refl)) c.plan_failure.ensures.ok
