-- A text is empty where it has no byte.
use Rattle.std.proofs.Common.{◌≡◌, ◌≢◌, ◌<◌, ◌==◌, ℕ, List, [], ◌∷◌, true, false, eqb-true, length, refl, sym, arith}

pub empty_by : (text : List ℕ) → true ≡ (length text == 0) → text ≡ []
empty_by [] e = refl
empty_by (byte ∷ bytes) e =
    let none : length (byte ∷ bytes) ≡ 0 = eqb-true (length (byte ∷ bytes)) 0 (sym e) in
    absurd (omega arith)

pub bytes_by : (text : List ℕ) → false ≡ (length text == 0) → 0 < length text
bytes_by [] e = absurd (cc)
bytes_by (byte ∷ bytes) e = omega arith

pub filled_by : (text : List ℕ) → 0 < length text → text ≢ []
filled_by [] some = absurd (omega arith)
filled_by (byte ∷ bytes) some = λ e. absurd (cc)
