use Rattle.std.proofs.Common.{◌+◌, ◌∙◌, length, refl, sym, arith}
use Rattle.tx_change.specs.States.{state_of}
use Rattle.tx_model.specs.Processes.{children_below}
use Rattle.tx_reserve.proofs.Rows.{adds_none, children_more, children_all, children_none, childless}
use Rattle.tx_reserve.proofs.footprints.add_children.Goals as goal

pub returns-then-actor-eq1 : goal.returns-then-actor-eq1
returns-then-actor-eq1 c = λ held. children_none c.args.set.now c.args.actor.now.pid.0 (state_of held c.args.actor.now.parts.now) c.if-actor-eq1.true

pub returns-then-child_count-eq0 : goal.returns-then-child_count-eq0
returns-then-child_count-eq0 c = λ held.
    let actor = c.args.actor.now in
    children_all actor.pid.0 (length actor.parts.now.procs + 1) (state_of held actor.parts.now) c.if-actor-eq1.false refl
    (childless c.args.set.now actor.pid.0 (length actor.parts.now.procs + 1) held actor.parts.now (sym c.child_count.ensures ∙ c.if-child_count-eq0.true))

pub loop-number-init : goal.loop-number-init
unfolding children_below
loop-number-init c = λ held. adds_none c.args.set.now

pub loop-number-preserved : goal.loop-number-preserved
loop-number-preserved c = λ held. children_more c.args.actor.now.pid.0 c.loop-number.number (c.loop-number.number + 1) (state_of held c.args.actor.now.parts.now) (omega arith) (c.loop-number.invariant held) (c.add_child.ensures held)

pub returns : goal.returns
returns c = λ held. children_all c.args.actor.now.pid.0 c.loop-number.number (state_of held c.args.actor.now.parts.now) c.if-actor-eq1.false (omega arith) (c.loop-number.invariant held)
