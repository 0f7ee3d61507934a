use Rattle.std.proofs.Common.{◌≡◌, ◌<◌, ◌∙◌, None, ℕ, ◌+◌, ◌==◌, ◌∷◌, drop, length, sym, ap, subst, rules}
use Rattle.tx_change.specs.declared.change.Change.TheVariants.{Part as SetPart}
use Rattle.tx_kernel.proofs.Discarded.{one_out, one_kept, here_at}
use Rattle.tx_kernel.proofs.PartsOwned.{extends_more}
use Rattle.tx_kernel.specs.Discards.{TakenOut, queue_of}
use Rattle.tx_kernel.specs.Plans.{Extends}
use Rattle.tx_model.specs.State.{Queued}
use Rattle.tx_proc.specs.declared.proc.Part.TheVariants.{Queued as SetQueued}
use Rattle.tx_kernel.proofs.actor.Actor.push_taken_out.Goals.{then-eq+in_ok-push, else-eq}
use Rattle.tx_kernel.proofs.actor.Actor.push_taken_out.Goals as goal

pub loop-entry-preserved : goal.loop-entry-preserved
loop-entry-preserved c =
    let entry : Queued = c.entry-item.result in
    let there : c.loop-entry.entry-index < length c.queued-entry-items.result.now = search rules in
    let here : drop c.loop-entry.entry-index (queue_of c.args.self.now) ≡ entry ∷ drop (c.loop-entry.entry-index + 1) (queue_of c.args.self.now)
    = here_at (queue_of c.args.self.now) c.queued-entry-items.result.now c.loop-entry.entry-index entry c.queued-entry-items.ensures.whole there c.entry-item.is in
    let number : (entry.signo == c.args.signo.0) ≡ c.eq.result = ap (λ (q : Queued). q.signo == c.args.signo.0) (sym c.entry.view_is) ∙ sym c.eq.ensures in
    elim c.if-eq.branch [
      | then-eq+in_ok-push w ↦
          let more = w.log-is ∙ w.in_ok-push.ensures.ok in (
            subst (TakenOut c.args.self.now c.args.log.now c.if-eq.log c.args.signo.0 (c.loop-entry.entry-index + 1)) (sym w.place-is)
                (one_out c.args.self.now c.args.log.now c.loop-entry.log c.if-eq.log c.args.signo.0 c.loop-entry.entry-index c.loop-entry.place entry c.loop-entry.invariant.0
                c.queued-entry-items.ensures.fits here (number ∙ w.if-eq.true) more),
            extends_more c.args.log.now c.loop-entry.log c.if-eq.log (SetPart c.args.self.now.pid (SetQueued c.loop-entry.place None)) c.loop-entry.invariant.1 more,
          )
      | else-eq w ↦ (
        subst (λ (place : ℕ). TakenOut c.args.self.now c.args.log.now c.if-eq.log c.args.signo.0 (c.loop-entry.entry-index + 1) place) (sym w.place-is)
            (one_kept c.args.self.now c.args.log.now c.if-eq.log c.args.signo.0 c.loop-entry.entry-index c.loop-entry.place entry
            (subst (λ log. TakenOut c.args.self.now c.args.log.now log c.args.signo.0 c.loop-entry.entry-index c.loop-entry.place) (sym w.log-is) c.loop-entry.invariant.0)
            here (number ∙ w.if-eq.false)),
        subst (Extends c.args.log.now) (sym w.log-is) c.loop-entry.invariant.1,
      )
    ]
