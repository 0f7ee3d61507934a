-- Where nothing is pending no signal is offered.
use Rattle.std.proofs.Common.{◌≡◌, ℕ, Bool, true, false, List, [], ◌∷◌, ◌==◌, cond, if◌then◌else◌, Option, Some, None, pos, refl, sym, ap, ◌∙◌}
use Rattle.std.proofs.lemmas.Nat.Bits.{bit_at-zero}
use Rattle.std.specs.List.{find}
use Rattle.tx_model.specs.Deliveries.{delivered_value, first_value, is_blocked}
use Rattle.tx_model.specs.Effects.{Inside}
use Rattle.tx_model.specs.SignalSets.{is_in_set, is_realtime}
use Rattle.tx_model.specs.State.{Process}
use Rattle.tx_workers.specs.Offers.{in_order, is_offered, offered}

none_found : (test : ℕ → Bool) → ((n : ℕ) → test n ≡ false) → (ns : List ℕ) → None ≡ find test ns
none_found test fails [] = refl
none_found test fails (n ∷ ns) = none_found test fails ns ∙ sym (ap (λ (b : Bool). cond b (Some n) (find test ns)) (fails n))

module _ (me : Process) (standard : me.pending ≡ 0) (queued : me.queued ≡ []) where
  none_first : (signo : ℕ) → first_value signo me.queued ≡ None
  unfolding first_value
  none_first signo = ap (first_value signo) queued

  none_delivered : (signo : ℕ) → delivered_value signo me ≡ None
  none_delivered signo = by (is_blocked signo me) (is_realtime signo)
    where
      empty : is_in_set me.pending signo ≡ false
      empty = ap (λ (set : ℕ). is_in_set set signo) standard ∙ ap (λ (bit : ℕ). bit == 1) (bit_at-zero signo)

      by : (b c : Bool) → (if b then None else (if c then first_value signo me.queued else (if is_in_set me.pending signo then Some (pos 0) else None))) ≡ None
      by true c = refl
      by false true = none_first signo
      by false false = rw empty refl

  pub none_offered : (inside : Option Inside) → None ≡ offered inside me
  none_offered inside = none_found (is_offered inside me) (λ signo. rw (none_delivered signo) refl) in_order
