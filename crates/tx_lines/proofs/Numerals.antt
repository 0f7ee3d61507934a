-- The digits of a number: all but the last, and the last one.
use Rattle.std.proofs.Common.{◌≡◌, ℕ, ◌+◌, ◌/◌, ◌%◌, ◌^◌, ◌<◌, ◌≤◌, ◌++◌, List, [], ◌∷◌, ap, refl, sym, ◌∙◌, arith, inl, inr, lt-ltb, le-ltb}
use Rattle.std.proofs.lemmas.Bool.{cases_lt}
use Rattle.std.proofs.lemmas.Fmt.{decimal_digit, decimal_step}
use Rattle.std.specs.Fmt.{decimal}
use Rattle.tx_lines.specs.Numerals.{front_text}

no_front : (number : ℕ) → number < 10 → front_text number ≡ []
no_front number small = rw (lt-ltb number 10 small) refl

pub front_is : (number : ℕ) → 10 ≤ number → front_text number ≡ decimal (number / 10)
front_is number large = rw (le-ltb number 10 large) refl

pub last_apart : (number : ℕ) → number < 2 ^ 64 → decimal number ≡ front_text number ++ (48 + number % 10) ∷ []
last_apart number below =
    elim (cases_lt number 10) [
      | inl small ↦ let last : number % 10 ≡ number = omega arith in
          decimal_digit number small ∙ ap (λ (n : ℕ). (48 + n) ∷ []) (sym last)
          ∙ ap (λ (front : List ℕ). front ++ (48 + number % 10) ∷ []) (sym (no_front number small))
      | inr large ↦ decimal_step number large below ∙ ap (λ (front : List ℕ). front ++ (48 + number % 10) ∷ []) (sym (front_is number large))
    ]
