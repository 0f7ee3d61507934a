use Rattle.std.proofs.Common.{◌≡◌, true, false, Some, ℤ, List, get_or, FitsSigned, w64, to_z, of_z, rules, sym, ap, ◌∙◌}
use Rattle.std.proofs.lemmas.Int.{to_z-of_z}
use Rattle.tx_model.specs.Deliveries.{first_value}
use Rattle.tx_model.specs.SignalSets.{is_in_set, is_realtime}
use Rattle.tx_model.specs.State.{Queued, booted_process}
use Rattle.tx_signal.specs.Parts.{pending_of, PendingView}
use Rattle.tx_signal.proofs.QueueFacts.{relieved-absent, given-value}
use Rattle.tx_signal.proofs.pending.Pending.take.Goals as goal

pub returns-then-is_realtime-clause-value : goal.returns-then-is_realtime-clause-value
returns-then-is_realtime-clause-value c =
    let realtime : is_realtime c.args.signo.0 ≡ true = cc in
    let fits : FitsSigned w64 c.result.inside.value = search rules in
    let whole = to_z-of_z w64 c.result.inside.value fits in
    let value : c.result.inside.value ≡ c.remove.result.value = ap (λ (entry : Queued). entry.value) c.result.view_is in
    let queue : c.self.inside.queued.items ≡ c.args.self.now.queued = ap (λ (view : PendingView). view.queued) c.self.view_is in
    let read : c.remove.result ≡ get_or c.args.self.now.queued c.in_ok-place.place c.remove.result =
    c.remove.ensures.value ∙ ap (λ (entries : List Queued). get_or entries c.in_ok-place.place c.remove.result) queue in
    let given = given-value c.args.self.now.queued c.in_ok-place.place c.args.signo.0 c.remove.result (first_value c.args.signo.0 c.args.self.now.queued) read c.in_ok-place.ensures.entry in
    let some : Some (to_z w64 (of_z w64 c.result.inside.value)) ≡ Some c.remove.result.value = ap (λ (n : ℤ). Some n) (whole ∙ value) in
    λ me. rw realtime (some ∙ given)

pub returns-then-not-has-clause-taken : goal.returns-then-not-has-clause-taken
returns-then-not-has-clause-taken c =
    let standard : is_realtime c.args.signo.0 ≡ false = cc in
    let set = ap (λ (view : PendingView). is_in_set view.standard c.args.signo.0) c.self.view_is in
    let absent : is_in_set c.args.self.now.standard c.args.signo.0 ≡ false = sym set ∙ sym c.has.ensures ∙ c.if-not-has.true in
    ap pending_of (relieved-absent c.args.signo.0 c.args.self.now (booted_process 1) standard absent)
