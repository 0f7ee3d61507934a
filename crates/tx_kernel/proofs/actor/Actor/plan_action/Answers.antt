use Rattle.std.proofs.Common.{pos, ap, if◌then◌else◌}
use Rattle.tx_base.specs.declared.signals.Action.{Action}
use Rattle.tx_kernel.proofs.PartsOwned.{part_more, part_same, part_answered}
use Rattle.tx_kernel.specs.Actors.{me_of}
use Rattle.tx_kernel.specs.declared.actor.Actor.{Actor}
use Rattle.tx_model.specs.Signals.{without_signal, with_action}
use Rattle.tx_model.specs.Words.{is_ignored}
use Rattle.tx_model.specs.State.{Process}
use Rattle.tx_proc.specs.Parts.{revised}
use Rattle.tx_proc.specs.declared.proc.Part.TheVariants.{Action as SetAction}
use Rattle.tx_kernel.proofs.Discarded.{stays_there}
use Rattle.tx_kernel.proofs.actor.Actor.plan_action.Goals as goal

pub returns-clause-ok : goal.returns-clause-ok
returns-clause-ok c =
    let actor : Actor = c.args.self.now in
    let ignored : Process → Process = λ me. if is_ignored c.args.signo.0 c.args.action then without_signal c.args.signo.0 me else me in
    part_answered actor c.args.log.now c.push.new.log c.push_answer.new.log (λ me. with_action c.args.signo.0 c.args.action (ignored me)) (pos 0)
    (part_same actor c.args.log.now c.push.new.log (λ me. revised (SetAction c.args.signo c.maskable_action.result) (ignored me)) (λ me. with_action c.args.signo.0 c.args.action (ignored me))
    (part_more actor c.args.log.now c.push_ignored.new.log c.push.new.log ignored (SetAction c.args.signo c.maskable_action.result) c.in_ok-push_ignored.ensures.ok tt tt c.in_ok-push.ensures.ok)
    (ap (λ (action : Action). revised (SetAction c.args.signo action) (ignored (me_of actor))) c.maskable_action.ensures))
    (stays_there (is_ignored c.args.signo.0 c.args.action) c.args.signo.0 (me_of actor)) c.in_ok-push_answer.ensures.ok
