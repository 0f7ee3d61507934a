use Rattle.std.proofs.Common.{ℕ, ◌∙◌, ap}
use Rattle.tx_kernel.proofs.PartsOwned.{part_more, part_same}
use Rattle.tx_kernel.specs.Actors.{me_of}
use Rattle.tx_model.specs.Signals.{without_signal, queued_others}
use Rattle.tx_model.specs.SignalSets.{without_one}
use Rattle.tx_proc.specs.Parts.{revised}
use Rattle.tx_proc.specs.declared.proc.Part.TheVariants.{Pending}
use Rattle.tx_kernel.proofs.actor.Actor.push_discarded.Goals as goal

pub returns-clause-ok : goal.returns-clause-ok
returns-clause-ok c =
    let actor = c.args.self.now in
    part_same actor c.args.log.now c.push.new.log (λ me. revised (Pending c.without-standard.result) (record me { queued = queued_others c.args.signo.0 me.queued })) (without_signal c.args.signo.0)
    (part_more actor c.args.log.now c.push_taken_out.new.log c.push.new.log (λ me. record me { queued = queued_others c.args.signo.0 me.queued }) (Pending c.without-standard.result)
    c.in_ok-push_taken_out.ensures.ok tt tt c.in_ok-push.ensures.ok)
    (ap (λ (set : ℕ). record (without_signal c.args.signo.0 (me_of actor)) { pending = set }) (c.without-standard.ensures ∙ ap (λ (set : ℕ). without_one set c.args.signo.0) c.standard.ensures))
