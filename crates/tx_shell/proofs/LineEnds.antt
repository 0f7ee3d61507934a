-- A line without the byte 13 at its end.
use Rattle.std.proofs.Common.{◌≡◌, ◌≢◌, ℕ, List, [], ◌∷◌, ◌++◌, refl, ap, inl, inr}
use Rattle.std.proofs.lemmas.Bool.Decides.{eqb_tells}
use Rattle.tx_translate.specs.OwnLines.{without_return}

pub before_end : (front : List ℕ) → without_return (front ++ 13 ∷ []) ≡ front
before_end [] = refl
before_end (byte ∷ []) = refl
before_end (byte ∷ next ∷ bytes) = ap (λ (t : List ℕ). byte ∷ t) (before_end (next ∷ bytes))

pub without_end : (line : List ℕ) → ((front : List ℕ) → line ≢ front ++ 13 ∷ []) → without_return line ≡ line
without_end [] none = refl
without_end (byte ∷ []) none =
    elim (eqb_tells byte 13) [
      | inl h ↦ absurd (none [] (ap (λ (b : ℕ). b ∷ []) h.1))
      | inr h ↦ rw h.0 refl
    ]
without_end (byte ∷ next ∷ bytes) none =
    ap (λ (t : List ℕ). byte ∷ t) (without_end (next ∷ bytes) (λ front e. none (byte ∷ front) (ap (λ (t : List ℕ). byte ∷ t) e)))
