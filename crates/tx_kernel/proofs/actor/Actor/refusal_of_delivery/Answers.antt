use Rattle.std.proofs.Common.{sym, ◌∙◌}
use Rattle.tx_change.specs.States.{state_of}
use Rattle.tx_kernel.proofs.Delivered.{deferred_is, none_is}
use Rattle.tx_kernel.proofs.Refused.{delivery_made, frameless_refuses}
use Rattle.tx_kernel.specs.Actors.{me_of}
use Rattle.tx_kernel.proofs.actor.Actor.refusal_of_delivery.Goals as goal

pub returns-in_default-clause-refused : goal.returns-in_default-clause-refused
returns-in_default-clause-refused c held counted =
    let actor = c.args.self.now in
    none_is actor c.args.signo.0 (state_of held actor.parts.now) (c.in_default.ensures (me_of actor))

pub returns-then-is_deferred-clause-refused : goal.returns-then-is_deferred-clause-refused
returns-then-is_deferred-clause-refused c held counted =
    let actor = c.args.self.now in
    deferred_is actor c.args.signo.0 c.in-Some._value (state_of held actor.parts.now) (sym (c.in-Some.ensures (me_of actor))) (sym c.is_deferred.ensures ∙ c.if-is_deferred.true)

pub returns-then-lacks_frame-clause-refused : goal.returns-then-lacks_frame-clause-refused
returns-then-lacks_frame-clause-refused c held counted =
    let actor = c.args.self.now in
    frameless_refuses actor c.args.signo.0 c.in-Some._value (state_of held actor.parts.now) (sym (c.in-Some.ensures (me_of actor))) (sym c.is_deferred.ensures ∙ c.if-is_deferred.false)
    (sym c.lacks_frame.ensures ∙ c.if-lacks_frame.true)

pub returns-clause-accepted : goal.returns-clause-accepted
returns-clause-accepted c held counted =
    let actor = c.args.self.now in
    delivery_made actor c.args.signo.0 c.in-Some._value (state_of held actor.parts.now) (sym (c.in-Some.ensures (me_of actor))) (sym c.is_deferred.ensures ∙ c.if-is_deferred.false)
    (sym c.lacks_frame.ensures ∙ c.if-lacks_frame.false)
