-- Words that end where another byte follows.
use Rattle.std.proofs.Common.{◌≡◌, ℕ, ◌<◌, ◌^◌, Bool, true, false, ◌&&◌, List, [], ◌∷◌, ◌++◌, refl, sym, ap, ◌∙◌, arith, append_assoc, get_or, ◌==◌, eq-eqb}
use Rattle.std.specs.Prelude.{nat_lt, ℤ, FitsSigned}
use Rattle.std.specs.Int.{w64}
use Rattle.std.specs.Fmt.{decimal, signed_decimal}
use Rattle.std.specs.Str.Parse.{AllDigits}
use Rattle.std.proofs.lemmas.Bool.{both_ways}
use Rattle.std.proofs.lemmas.Bool.Decides.{nat_tests}
use Rattle.std.proofs.lemmas.Fmt.{decimal_injective, digits_decimal, signed_decimal_injective}
use Rattle.std.proofs.lemmas.Str.Parse.{digit_at}
use Rattle.tx_lines.specs.NumberFacts.{mag_small, own}

-- each byte passes the test
abbrev pub Passes : (ℕ → Bool) → List ℕ → Type 0
Passes p [] = Unit {0}
Passes p (byte ∷ bytes) = (p byte ≡ true) × Passes p bytes

-- the first byte, if there is one, does not
abbrev pub Stops : (ℕ → Bool) → List ℕ → Type 0
Stops p [] = Unit {0}
Stops p (byte ∷ bytes) = p byte ≡ false

pub until : (p : ℕ → Bool) (a b r s : List ℕ) → Passes p a → Passes p b → Stops p r → Stops p s → a ++ r ≡ b ++ s → (a ≡ b) × (r ≡ s)
until p [] [] r s in_a in_b at_r at_s e = (refl, e)
until p [] (y ∷ b) r s in_a in_b at_r at_s e = grind (arith, both_ways)
until p (x ∷ a) [] r s in_a in_b at_r at_s e = grind (arith, both_ways)
until p (x ∷ a) (y ∷ b) r s in_a in_b at_r at_s e = grind (arith, until p a b r s)

-- a text in two parts, with what follows
pub regroup : (a t r b u s : List ℕ) → (a ++ t) ++ r ≡ (b ++ u) ++ s → a ++ (t ++ r) ≡ b ++ (u ++ s)
regroup a t r b u s e = sym (append_assoc a t r) ∙ e ∙ append_assoc b u s

-- texts with another byte at one place are two
pub other_byte : {r s : List ℕ} (i : ℕ) → r ≡ s → (get_or r i 0 == get_or s i 0) ≡ false → ⊥
other_byte {r = r} {s = s} i e other = both_ways (get_or r i 0 == get_or s i 0) other (eq-eqb (get_or r i 0) (get_or s i 0) (ap (λ (t : List ℕ). get_or t i 0) e))

-- a digit or a sign
abbrev pub in_number : ℕ → Bool
in_number byte = nat_lt 44 byte && nat_lt byte 58

digit_passes : (byte : ℕ) → 44 < byte → byte < 58 → in_number byte ≡ true
digit_passes byte above below = grind (arith, nat_tests)

digits_pass : (word : List ℕ) → AllDigits 10 word → Passes in_number word
digits_pass [] digits = tt
digits_pass (byte ∷ word) digits =
    let range = digit_at (byte ∷ word) 0 digits (omega arith) in
    (digit_passes byte (omega (arith, range.0)) (omega (arith, range.1)), digits_pass word digits.1)

decimal_passes : (n : ℕ) → n < 2 ^ 64 → Passes in_number (decimal n)
decimal_passes n small = digits_pass (decimal n) (digits_decimal own n small)

signed_passes : (z : ℤ) → FitsSigned w64 z → Passes in_number (signed_decimal z)
signed_passes z fits = grind (arith, decimal_passes)

-- a number ends where no digit follows
pub number_unique : (m n : ℕ) (r s : List ℕ) → m < 2 ^ 64 → n < 2 ^ 64 → Stops in_number r → Stops in_number s → decimal m ++ r ≡ decimal n ++ s → (m ≡ n) × (r ≡ s)
number_unique m n r s m_small n_small at_r at_s e =
    let parts = until in_number (decimal m) (decimal n) r s (decimal_passes m m_small) (decimal_passes n n_small) at_r at_s e in
    (decimal_injective m n m_small n_small parts.0, parts.1)

pub signed_unique : (y z : ℤ) (r s : List ℕ) → FitsSigned w64 y → FitsSigned w64 z → Stops in_number r → Stops in_number s → signed_decimal y ++ r ≡ signed_decimal z ++ s → (y ≡ z) × (r ≡ s)
signed_unique y z r s y_fits z_fits at_r at_s e =
    let parts = until in_number (signed_decimal y) (signed_decimal z) r s (signed_passes y y_fits) (signed_passes z z_fits) at_r at_s e in
    (signed_decimal_injective y z (mag_small y y_fits) (mag_small z z_fits) parts.0, parts.1)
