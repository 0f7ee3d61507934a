use Rattle.std.proofs.Common.{refl, ◌≡◌, true, false, List, ◌∙◌, ap}
use Rattle.tx_base.specs.Signals.{bits_of}
use Rattle.tx_model.specs.Deliveries.{has_lower}
use Rattle.tx_model.specs.SignalSets.{is_in_set, is_realtime}
use Rattle.tx_model.specs.State.{Queued}
use Rattle.tx_signal.specs.Parts.{PendingView, with_pending_under}
use Rattle.tx_signal.proofs.QueueFacts.{blocked-realtime, has_lower-any}
use Rattle.tx_signal.proofs.pending.Pending.is_blocked.Goals as goal

pub returns-then-is_realtime : goal.returns-then-is_realtime
returns-then-is_realtime c =
    let signo = c.args.signo.0 in
    let mask = bits_of c.args.mask in
    let queue : c.as_slice.result.now ≡ c.args.self.now.queued = c.as_slice.ensures.value ∙ ap (λ (view : PendingView). view.queued) c.self.view_is in
    let low : c.lower.result ≡ has_lower signo mask c.args.self.now.queued =
    c.lower.ensures ∙ has_lower-any signo mask c.as_slice.result.now ∙ ap (λ (entries : List Queued). has_lower signo mask entries) queue in
    let realtime : is_realtime signo ≡ true = cc in
    let free : is_in_set mask signo ≡ false = cc in
    λ me. blocked-realtime signo mask (with_pending_under mask c.args.self.now me) realtime free refl c.lower.result low
