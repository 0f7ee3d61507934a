use Rattle.std.proofs.Common.{◌≡◌, Bool, false, if◌then◌else◌, ap, sym, ◌∙◌}
use Rattle.tx_kernel.specs.Actors.{inside_of, me_of}
use Rattle.tx_model.specs.Deliveries.{action_at, ends_by, is_deferred}
use Rattle.tx_model.specs.Words.{is_fatal}
use Rattle.tx_kernel.proofs.actor.Actor.is_ended_by.Goals as goal

pub returns-in_default : goal.returns-in_default
returns-in_default c = ap (ends_by (inside_of c.args.self.now.inside) c.args.signo.0 (me_of c.args.self.now)) (c.in_default.ensures (me_of c.args.self.now))

pub returns-then-not-is_deferred : goal.returns-then-not-is_deferred
returns-then-not-is_deferred c =
    let actor = c.args.self.now in
    let signo = c.args.signo.0 in
    let at_once : is_deferred (inside_of actor.inside) signo ≡ false = sym c.is_deferred.ensures ∙ c.if-not-is_deferred.true in
    c.is_fatal.ensures ∙ ap (is_fatal signo) (c.get.ensures (me_of actor))
    ∙ sym (ap (λ (b : Bool). if b then false else is_fatal signo (action_at signo (me_of actor))) at_once)
    ∙ ap (ends_by (inside_of actor.inside) signo (me_of actor)) (c.in-Some.ensures (me_of actor))
