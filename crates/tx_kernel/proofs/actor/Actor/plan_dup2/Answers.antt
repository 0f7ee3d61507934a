use Rattle.std.proofs.Common.{arith, refl, w64, to_z, of_z}
use Rattle.std.proofs.lemmas.Int.{to_z-of_z, to_z_pos}
use Rattle.tx_change.specs.States.{state_of}
use Rattle.tx_kernel.proofs.NamedCalls.{dup2_plan, done_plan}
use Rattle.tx_kernel.specs.Actors.{caller_of, effect_by, names_by}
use Rattle.tx_model.specs.Book.{dup2}
use Rattle.tx_model.specs.Descriptors.{descriptor}
use Rattle.tx_model.specs.Words.{dup2_objects}
use Rattle.tx_model.specs.Numbers.{error_answer}
use Rattle.tx_kernel.proofs.actor.Actor.plan_dup2.Goals as goal

pub plan_dup2-requires : goal.plan_dup2-requires
plan_dup2-requires c =
    let me = c.args.self.now in
    record {
      named = c.laws.ensures.room me.parts.now me.pid.0 me.proc.now.descriptors _ 1 (omega arith) c.requires.number c.requires.whole.counts c.requires.whole.places c.requires.whole.few
          (me.proc.now, c.requires.there, c.requires.runs, refl);
      left = c.laws.ensures.room me.parts.now me.pid.0 me.proc.now.descriptors _ 0 (omega arith) c.requires.number c.requires.whole.counts c.requires.whole.places c.requires.whole.few
          (me.proc.now, c.requires.there, c.requires.runs, refl);
    }

pub returns-in_ok-push_answer-in-Ok-clause-ok : goal.returns-in_ok-push_answer-in-Ok-clause-ok
returns-in_ok-push_answer-in-Ok-clause-ok c =
    let plan = c.in-Ok.plan in
    let below = c.in-Ok.ensures.fd in
    let as_ret = to_z_pos w64 plan.renamed.fd (omega (arith, below)) in
    rw as_ret (simp (to_z-of_z w64 c.args.fd c.ranges.fd, to_z-of_z w64 c.args.other c.ranges.other) at
    (dup2_plan c.laws.ensures c.args.self.now c.args.log.now c.push_rename.new.log c.push_answer.new.log
    (to_z w64 (of_z w64 c.args.fd)) (to_z w64 (of_z w64 c.args.other)) plan.renamed plan.rename c.sized.ensures c.requires
    c.in-Ok.ensures.answer c.in-Ok.ensures.descriptions c.in-Ok.ensures.counts c.in-Ok.ensures.gone c.in-Ok.ensures.changed c.in-Ok.ensures.apart c.in-Ok.ensures.left c.in-Ok.ensures.numbers
    c.in_ok-push_rename-in-Ok.ensures.ok (rw as_ret at c.in_ok-push_answer-in-Ok.ensures.ok)))

pub returns-in-Err-clause-ok : goal.returns-in-Err-clause-ok
returns-in-Err-clause-ok c =
    let me = c.args.self.now in
    done_plan c.plan_failure.result me c.args.log.now c.plan_failure.new.log (error_answer c.in-Err.errno) (effect_by me (dup2 c.args.fd c.args.other))
    (names_by me (λ k. dup2_objects (descriptor c.args.fd) (descriptor c.args.other) k.process k.state))
    (λ held. simp (to_z-of_z w64 c.args.fd c.ranges.fd, to_z-of_z w64 c.args.other c.ranges.other) at (c.in-Err.ensures.answer (caller_of me (state_of held me.parts.now)) refl)) c.plan_failure.ensures.ok
