use Rattle.std.proofs.Common.{length, [], refl, sym, inl, inr}
use Rattle.tx_change.specs.States.{state_of}
use Rattle.tx_kernel.proofs.AnyCall.{so_anyway}
use Rattle.tx_kernel.proofs.NamedCalls.{pipe_plan, failed_plan, good_choice, free_numbers}
use Rattle.tx_kernel.specs.Actors.{caller_of}
use Rattle.tx_model.specs.Book.{pipe}
use Rattle.tx_model.specs.Words.{pipe_objects}
use Rattle.tx_kernel.proofs.actor.Actor.plan_pipe.Goals as goal

pub returns-then-is_bad_pipe-clause-refused : goal.returns-then-is_bad_pipe-clause-refused
returns-then-is_bad_pipe-clause-refused c = inr (refl, sym (c.if-is_bad_pipe.ensures 0))

pub returns-then-has_pipe_in_use-clause-refused : goal.returns-then-has_pipe_in_use-clause-refused
returns-then-has_pipe_in_use-clause-refused c =
    inl (inr (λ held counted. rw (← c.if-has_pipe_in_use.ensures held) refl))

pub plan_pipe-requires-clause-apart : goal.plan_pipe-requires-clause-apart
plan_pipe-requires-clause-apart c = (good_choice c.args.pipe.0 c.args.read.0 c.args.write.0 (c.if-is_bad_pipe.ensures 0)).3

pub plan_pipe-requires-clause-read_in : goal.plan_pipe-requires-clause-read_in
plan_pipe-requires-clause-read_in c = (good_choice c.args.pipe.0 c.args.read.0 c.args.write.0 (c.if-is_bad_pipe.ensures 0)).1

pub plan_pipe-requires-clause-write_in : goal.plan_pipe-requires-clause-write_in
plan_pipe-requires-clause-write_in c = (good_choice c.args.pipe.0 c.args.read.0 c.args.write.0 (c.if-is_bad_pipe.ensures 0)).2

pub returns-in_ok-push_pipe-in-Ok-clause-ok : goal.returns-in_ok-push_pipe-in-Ok-clause-ok
returns-in_ok-push_pipe-in-Ok-clause-ok c =
    pipe_plan c.laws.ensures c.args.self.now c.args.log.now c.push_pipe.new.log c.args.pipe c.args.read c.args.write c.in-Ok.plan c.sized.ensures c.sized-2.ensures c.requires
    (good_choice c.args.pipe.0 c.args.read.0 c.args.write.0 (c.if-is_bad_pipe.ensures 0)).0
    (free_numbers c.args.self.now c.args.pipe.0 c.args.read.0 c.args.write.0 (λ starter. []) c.sized.ensures (sym (c.if-has_pipe_in_use.ensures (λ starter. []))))
    c.in-Ok.ensures.answer c.in-Ok.ensures.descriptions c.in-Ok.ensures.counts c.in-Ok.ensures.named c.in-Ok.ensures.numbers c.in_ok-push_pipe-in-Ok.ensures.ok

pub returns-in-Err-clause-ok : goal.returns-in-Err-clause-ok
returns-in-Err-clause-ok c =
    let me = c.args.self.now in
    let free = free_numbers me c.args.pipe.0 c.args.read.0 c.args.write.0 (λ starter. []) c.sized.ensures (sym (c.if-has_pipe_in_use.ensures (λ starter. []))) in
    failed_plan c.plan_failure.result me c.args.log.now c.plan_failure.new.log c.in-Err.errno (pipe c.args.pipe.0 c.args.read.0 c.args.write.0)
    (λ k. pipe_objects c.args.pipe.0 c.args.read.0 c.args.write.0)
    (λ held. c.in-Err.ensures.answer (caller_of me (state_of held me.parts.now)) me.parts.now.descs refl free.0 (λ d. refl) free.1) c.plan_failure.ensures.ok

pub returns-in_ok-push_pipe-in-Ok-clause-numbers : goal.returns-in_ok-push_pipe-in-Ok-clause-numbers
returns-in_ok-push_pipe-in-Ok-clause-numbers c = sym (c.if-is_bad_pipe.ensures (length c.args.self.now.parts.now.procs))

pub returns-in-Err-clause-numbers : goal.returns-in-Err-clause-numbers
returns-in-Err-clause-numbers c = so_anyway c.plan_failure.result (sym (c.if-is_bad_pipe.ensures (length c.args.self.now.parts.now.procs)))
