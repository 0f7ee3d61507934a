use Rattle.std.proofs.Common.{ap, ◌∙◌}
use Rattle.tx_base.specs.declared.signals.Action.{Action}
use Rattle.tx_kernel.proofs.Refused.{usual_has_frame}
use Rattle.tx_kernel.specs.Actors.{me_of}
use Rattle.tx_kernel.specs.Refusals.{lacks_frame}
use Rattle.tx_model.specs.Signals.{disposition}
use Rattle.tx_kernel.proofs.actor.Actor.lacks_frame.Goals as goal

pub returns-in-Usual : goal.returns-in-Usual
returns-in-Usual c =
    let me = me_of c.args.self.now in
    usual_has_frame c.args.signo.0 me ∙ ap (λ (action : Action). lacks_frame (disposition c.args.signo.0 action) me) (c.in-Usual.ensures me)

pub returns-in-Ignore : goal.returns-in-Ignore
returns-in-Ignore c =
    let me = me_of c.args.self.now in
    ap (λ (action : Action). lacks_frame (disposition c.args.signo.0 action) me) (c.in-Ignore.ensures me)

pub returns-in-Catch : goal.returns-in-Catch
returns-in-Catch c =
    let me = me_of c.args.self.now in
    c.is_full.ensures me ∙ ap (λ (action : Action). lacks_frame (disposition c.args.signo.0 action) me) (c.in-Catch.ensures me)
