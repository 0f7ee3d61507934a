use Rattle.std.proofs.Common.{◌≡◌, true, Some, ℤ, List, get_or, FitsSigned, w64, to_z, of_z, rules, ap, ◌∙◌}
use Rattle.std.proofs.lemmas.Int.{to_z-of_z}
use Rattle.tx_model.specs.Deliveries.{first_value}
use Rattle.tx_model.specs.SignalSets.{is_realtime}
use Rattle.tx_model.specs.State.{Queued}
use Rattle.tx_signal.specs.Parts.{PendingView}
use Rattle.tx_signal.proofs.QueueFacts.{given-value}
use Rattle.tx_signal.proofs.pending.Pending.value.Goals as goal

pub returns-then-is_realtime : goal.returns-then-is_realtime
returns-then-is_realtime c =
    let queued = c.args.self.now.queued in
    let entry = c.index-deref-place.result in
    let realtime : is_realtime c.args.signo.0 ≡ true = cc in
    let fits : FitsSigned w64 c.entry.inside.value = search rules in
    let whole = to_z-of_z w64 c.entry.inside.value fits in
    let value : c.entry.inside.value ≡ entry.value = ap (λ (one : Queued). one.value) c.entry.view_is in
    let queue : c.deref.result.now ≡ queued = c.deref.ensures.0 ∙ ap (λ (view : PendingView). view.queued) c.self.view_is in
    let read : entry ≡ get_or queued c.in_ok-place.place entry =
    c.index-deref-place.is ∙ ap (λ (entries : List Queued). get_or entries c.in_ok-place.place entry) queue in
    let given = given-value queued c.in_ok-place.place c.args.signo.0 entry (first_value c.args.signo.0 queued) read c.in_ok-place.ensures.entry in
    let some : Some (to_z w64 (of_z w64 c.entry.inside.value)) ≡ Some entry.value = ap (λ (n : ℤ). Some n) (whole ∙ value) in
    λ me. rw realtime (some ∙ given)
