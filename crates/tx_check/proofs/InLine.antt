-- Bytes that are in one line.
use Rattle.std.proofs.Common.{◌≡◌, ℕ, ◌<◌, ◌^◌, Bool, true, ◌&&◌, false, List, [], ◌∷◌, ◌++◌, ◌∙◌, refl, arith, subst}
use Rattle.std.specs.Char.{digit_value}
use Rattle.std.specs.Fmt.{decimal}
use Rattle.std.specs.Str.Parse.{AllDigits}
use Rattle.std.proofs.lemmas.Bool.{both_ways, ne_eqb}
use Rattle.std.proofs.lemmas.Fmt.{decimal_is_IsNumeral}
use Rattle.std.proofs.lemmas.List.Folds.{list_all-append}
use Rattle.tx_check.specs.Diagnostics.{is_no_end, IsInLine}

-- some bytes more in the line
pub in_line_more : (old more new : List ℕ) → IsInLine old → IsInLine more → new ≡ old ++ more → IsInLine new
in_line_more old more new first second pushed = rw pushed (list_all-append is_no_end old more ∙ rw (first, second) refl)

digits_in_line : (bytes : List ℕ) → AllDigits 10 bytes → IsInLine bytes
digits_in_line [] digits = refl
digits_in_line (byte ∷ bytes) digits =
    let other = ne_eqb byte 10 (λ e. let digit : digit_value 10 < 10 = subst (λ (b : ℕ). digit_value b < 10) e digits.0 in absurd (omega arith)) in
    rw (other, digits_in_line bytes digits.1) refl

-- a number
pub decimal_in_line : (n : ℕ) → n < 2 ^ 64 → IsInLine (decimal n)
decimal_in_line n small = digits_in_line (decimal n) (decimal_is_IsNumeral n (omega arith)).0.1

pub both_true : (a b : Bool) → (a && b) ≡ true → (a ≡ true) × (b ≡ true)
both_true true b h = (refl, h)
both_true false b h = absurd (both_ways false refl h)
