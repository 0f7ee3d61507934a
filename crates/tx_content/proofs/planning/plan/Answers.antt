use Rattle.std.proofs.Common.{◌≡◌, length, take, sym, ap, ◌∙◌}
use Rattle.std.proofs.lemmas.Result.{IfOk-weaker}
use Rattle.std.specs.Option.{option_copied}
use Rattle.tx_kernel.specs.Actors.{inside_of, IsActor}
use Rattle.tx_kernel.specs.Acts.{PlansEvent, event_of}
use Rattle.tx_kernel.specs.declared.actor.Actor.{Actor}
use Rattle.tx_kernel.specs.declared.planned.Outcome.{Outcome}
use Rattle.tx_kernel.specs.declared.planned.Planned.{Planned}
use Rattle.tx_content.specs.Made.{IsPlanned}
use Rattle.tx_content.proofs.Planned.{kept_front}
use Rattle.tx_content.specs.ContentFacts.{is_actor}
use Rattle.tx_content.proofs.planning.plan.Goals as goal

pub returns-clause-planned : goal.returns-clause-planned
returns-clause-planned c =
    let actor : Actor = record { parts = c.args.parts; pid = c.args.runner.pid; proc = c.unwrap-proc.result; inside = c.args.runner.inside } in
    let is : IsActor actor = is_actor actor c.requires.whole (sym c.proc.ensures ∙ ap option_copied c.unwrap-proc.ensures) c.requires.running in
    let planned : Outcome → Planned = λ outcome. record { outcome = outcome; sends = c.plan.new.sends } in
    let event = event_of (inside_of c.args.runner.inside) c.args.runner.pid c.args.act.now in
    IfOk-weaker c.plan.result (λ outcome. PlansEvent actor c.args.log.now c.plan.new.log (planned outcome) event)
    (λ outcome. IsPlanned c.args.parts.now c.args.runner.pid c.args.runner.inside event c.args.log.now c.plan.new.log (planned outcome))
    (λ outcome plans after now goes logged. c.plans_are_made.ensures actor event c.args.log.now c.plan.new.log now after (planned outcome) is plans goes logged) c.plan.ensures.ok

pub returns-clause-log : goal.returns-clause-log
returns-clause-log c =
    let actor : Actor = record { parts = c.args.parts; pid = c.args.runner.pid; proc = c.unwrap-proc.result; inside = c.args.runner.inside } in
    let planned : Outcome → Planned = λ outcome. record { outcome = outcome; sends = c.plan.new.sends } in
    let event = event_of (inside_of c.args.runner.inside) c.args.runner.pid c.args.act.now in
    IfOk-weaker c.plan.result (λ outcome. PlansEvent actor c.args.log.now c.plan.new.log (planned outcome) event) (λ outcome. take (length c.args.log.now) c.plan.new.log ≡ c.args.log.now)
    (λ outcome plans. kept_front c.args.log.now c.plan.new.log plans.plan plans.added) c.plan.ensures.ok
