use Rattle.std.proofs.Common.{◌∙◌, refl}
use Rattle.tx_model.specs.State.{Proc}
use Rattle.tx_txn.proofs.MemberMarks.{low_proc, took_none, took_one}
use Rattle.tx_txn.proofs.members.Members.take.Goals as goal

pub loop-pid-init : goal.loop-pid-init
loop-pid-init c = took_none c.args.starter.0 c.args.objects.now c.args.marks.now c.none-members.result c.requires (λ n. c.none-members.ensures.joined (Proc n)) (λ n. c.none-members.ensures.ended (Proc n))

pub take_one-requires : goal.take_one-requires
take_one-requires c = low_proc c.loop-pid.rest c.in-Some.pid.0 c.in-Some.ensures.some.was_in

pub loop-pid-smaller : goal.loop-pid-smaller
loop-pid-smaller c = c.in-Some.ensures.some.falls

pub loop-pid-preserved : goal.loop-pid-preserved
loop-pid-preserved c =
    took_one c.args.starter.0 c.in-Some.pid.0 c.loop-pid.rest c.pop_proc.new.self c.args.marks.now c.loop-pid.marks c.take_one.new.marks c.loop-pid.members c.take_one.new.self c.loop-pid.invariant
    c.in-Some.ensures.some c.take_one.ensures.marks c.take_one.ensures.length c.take_one.ensures.joined c.take_one.ensures.ended

pub returns-clause-marks : goal.returns-clause-marks
returns-clause-marks c = λ n. c.loop-pid.invariant.marks n ∙ rw (c.in_default.ensures.none n) refl

pub returns-clause-length : goal.returns-clause-length
returns-clause-length c = c.loop-pid.invariant.long

pub returns-clause-joined : goal.returns-clause-joined
returns-clause-joined c = λ n. c.loop-pid.invariant.joined n ∙ rw (c.in_default.ensures.none n) refl

pub returns-clause-ended : goal.returns-clause-ended
returns-clause-ended c = λ n. c.loop-pid.invariant.ended n ∙ rw (c.in_default.ensures.none n) refl
