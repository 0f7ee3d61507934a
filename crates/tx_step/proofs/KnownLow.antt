-- Known signals have numbers below 64.
use Rattle.std.proofs.Common.{◌≡◌, ◌<◌, ◌||◌, ℕ, Bool, true, false, List, [], ◌∷◌, ◌==◌, refl, subst, arith, eqb-true}
use Rattle.tx_model.specs.SignalSets.{is_known, is_one_of, is_realtime, realtime_signals, standard_signals}

abbrev AreLow : List ℕ → Type 0
AreLow [] = Unit {0}
AreLow (m ∷ ms) = (m < 64) × AreLow ms

one_of_low : (ms : List ℕ) (n : ℕ) → AreLow ms → is_one_of ms n ≡ true → n < 64
one_of_low [] n low e = cc
one_of_low (m ∷ ms) n low e = by (m == n) refl (one_of_low ms n low.1) e
  where
    by : (b : Bool) → (m == n) ≡ b → (is_one_of ms n ≡ true → n < 64) → (b || is_one_of ms n) ≡ true → n < 64
    by true same rest e = subst (λ (k : ℕ). k < 64) (eqb-true m n same) low.0
    by false other rest e = rest e

pub known_low : (n : ℕ) → is_known n ≡ true → n < 64
known_low n e = by (is_one_of standard_signals n) refl e
  where
    standard : AreLow standard_signals
    standard = (omega arith, (omega arith, (omega arith, (omega arith, (omega arith, (omega arith, (omega arith, (omega arith, (omega arith, (omega arith, (omega arith, tt)))))))))))

    realtime : AreLow realtime_signals
    realtime = (omega arith, (omega arith, (omega arith, (omega arith, (omega arith, (omega arith, (omega arith, (omega arith, tt))))))))

    by : (b : Bool) → is_one_of standard_signals n ≡ b → (b || is_realtime n) ≡ true → n < 64
    by true one e = one_of_low standard_signals n standard one
    by false none e = one_of_low realtime_signals n realtime e
