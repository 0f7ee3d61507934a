use Rattle.std.proofs.Common.{sym}
use Rattle.tx_change.specs.States.{state_of}
use Rattle.tx_kernel.proofs.Refused.{taken_refuses}
use Rattle.tx_kernel.specs.Actors.{inside_of, me_of}
use Rattle.tx_kernel.proofs.actor.Actor.refusal_of_call.Goals as goal

pub returns-then-has_number_in_use-clause-refused : goal.returns-then-has_number_in_use-clause-refused
returns-then-has_number_in_use-clause-refused c held counted =
    let actor = c.args.self.now in
    taken_refuses (inside_of actor.inside) actor.pid.0 c.args.call.now (me_of actor) (state_of held actor.parts.now) (sym (c.if-has_number_in_use.ensures held))

pub waits-requires-clause-free : goal.waits-requires-clause-free
waits-requires-clause-free c held = sym (c.if-has_number_in_use.ensures held)

pub returns-then-waits-clause-refused : goal.returns-then-waits-clause-refused
returns-then-waits-clause-refused c = c.waits.ensures.refused c.if-waits.true

pub returns-clause-accepted : goal.returns-clause-accepted
returns-clause-accepted c = c.waits.ensures.made c.if-waits.false
