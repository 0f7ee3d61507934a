use Rattle.std.proofs.Common.{◌≤◌, ℕ, subst, sym, ◌∙◌, refl}
use Rattle.tx_txn.proofs.MemberMarks.{positive_proc, put_none, put_one}
use Rattle.tx_txn.proofs.members.Members.put_back.Goals as goal

pub loop-pid-init : goal.loop-pid-init
loop-pid-init c = put_none c.args.starter c.args.defers c.args.self.now c.args.marks.now

pub put_one-requires-clause-low : goal.put_one-requires-clause-low
put_one-requires-clause-low c = positive_proc c.loop-pid.rest c.in-Some.pid.0 c.in-Some.ensures.some.was_in

pub put_one-requires-clause-high : goal.put_one-requires-clause-high
put_one-requires-clause-high c =
    subst (λ (k : ℕ). c.in-Some.pid.0 ≤ k) (sym c.loop-pid.invariant.long)
    (c.requires c.in-Some.pid.0 (c.loop-pid.invariant.within c.in-Some.pid.0 c.in-Some.ensures.some.was_in))

pub loop-pid-smaller : goal.loop-pid-smaller
loop-pid-smaller c = c.in-Some.ensures.some.falls

pub loop-pid-preserved : goal.loop-pid-preserved
loop-pid-preserved c =
    put_one c.args.starter c.args.defers c.args.self.now c.in-Some.pid.0 c.loop-pid.rest c.pop_proc.new.self c.args.marks.now c.loop-pid.marks c.put_one.new.marks c.loop-pid.invariant
    c.in-Some.ensures.some c.put_one.ensures.marks c.put_one.ensures.length

pub returns-clause-marks : goal.returns-clause-marks
returns-clause-marks c = λ n. c.loop-pid.invariant.marks n ∙ rw (c.in_default.ensures.none n) refl

pub returns-clause-length : goal.returns-clause-length
returns-clause-length c = c.loop-pid.invariant.long
