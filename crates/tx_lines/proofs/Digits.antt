-- Digits that are read one after another.
use Rattle.std.proofs.Common.{◌≡◌, ℕ, zero, suc, ◌+◌, ◌-◌, ◌*◌, ◌^◌, ◌<◌, ◌≤◌, List, [], ◌∷◌, take, get_or, length, refl, sym, ap, ◌∙◌, arith, add-one}
use Rattle.std.proofs.lemmas.Fmt.{decimal-digits_value, decimal_digit, decimal_nonempty, digits_decimal, digits_value-decimal, first_decimal, length-decimal-le}
use Rattle.std.proofs.lemmas.Int.Digits.{digits_more, digits_value_more}
use Rattle.std.proofs.lemmas.Str.{digit_value_digit}
use Rattle.std.proofs.lemmas.Str.Parse.{digit_at, digits_value_short}
use Rattle.std.proofs.lemmas.List.{take_all, length-take}
use Rattle.std.specs.Char.{digit_value}
use Rattle.std.specs.Fmt.{decimal, signed_decimal}
use Rattle.std.specs.Prelude.{ℤ, pos, negsuc, FitsSigned}
use Rattle.std.specs.Int.{w64, IsInRange}
use Rattle.std.specs.Str.Parse.{AllDigits, digits_value}
use Rattle.tx_lines.specs.NumberFacts.{mag_small, own}

-- so far: the first i bytes are digits, and that is their number
pub record ReadsSoFar (word : List ℕ) (i number : ℕ) : Type 0 where
  pub digits : AllDigits 10 (take i word)
  pub value : number ≡ digits_value 10 (take i word)

-- no 18 digits are more than that
pub short_value : (word : List ℕ) (i number : ℕ) → ReadsSoFar word i number → i ≤ 18 → number < 10 ^ 18
short_value word i number so few =
    let short : digits_value 10 (take i word) < 10 ^ 18 = digits_value_short own (take i word) 18 so.digits (omega (arith, length-take i word)) in
    omega (arith, so.value)

-- one digit more
pub digit_more : (word : List ℕ) (i number byte digit : ℕ) → i < length word → byte ≡ get_or word i 0 → IsInRange 48 57 byte → digit ≡ byte - 48 → ReadsSoFar word i number
    → ReadsSoFar word (i + 1) (10 * number + digit)
digit_more word i number byte digit inside is within value so =
    let read = digit_value_digit byte within in
    let at : digit_value (get_or word i 0) ≡ digit = rw (← is) (omega (arith, read)) in
    let small : digit_value (get_or word i 0) < 10 = omega (arith, within.0, within.1) in
    record {
      digits = digits_more 10 word i inside so.digits small;
      value = omega (arith, digits_value_more 10 word i inside, so.value, at);
    }

-- no digit is left
pub all_read : (word : List ℕ) (i number : ℕ) → ReadsSoFar word i number → length word ≤ i → AllDigits 10 word × (number ≡ digits_value 10 word)
all_read word i number so none =
    let whole : take i word ≡ word = take_all i word none in
    (rw whole at so.digits, rw whole at so.value)

-- nothing is read
pub none_read : (word : List ℕ) → ReadsSoFar word 0 0
none_read word = record { digits = tt; value = refl }

-- a byte of digits is a digit
pub digit_among : (word : List ℕ) (i byte : ℕ) → AllDigits 10 word → i < length word → byte ≡ get_or word i 0 → IsInRange 48 57 byte
digit_among word i byte digits inside is = rw is (digit_at word i digits inside)

-- the spelling of a number has 1 to 19 bytes
pub spelled_length : (word : List ℕ) (n : ℕ) → n < 10 ^ 19 → word ≡ decimal n → (0 < length word) × (length word ≤ 19)
spelled_length word n small e = (
  omega (arith, decimal_nonempty n (omega arith), ap length e),
  omega (arith, length-decimal-le 19 n (omega arith) small (omega arith), ap length e),
)

-- with a 0 in front it is the spelling of 0
pub spelled_zero : (word : List ℕ) (n : ℕ) → n < 10 ^ 19 → word ≡ decimal n → get_or word 0 0 ≡ 48 → n ≡ 0
spelled_zero word zero small e front = refl
spelled_zero word (suc n) small e front =
    let first = first_decimal (suc n) (omega arith) (omega arith) in
    absurd (omega (arith, first, rw e at front))

pub spelled_digits : (word : List ℕ) (n : ℕ) → n < 10 ^ 19 → word ≡ decimal n → AllDigits 10 word × (digits_value 10 word ≡ n)
spelled_digits word n small e = rw e (digits_decimal own n (omega arith), digits_value-decimal own n (omega arith))

-- digits with no 0 in front are the spelling of their number
pub spelled_by_digits : (word : List ℕ) (n : ℕ) → AllDigits 10 word → n ≡ digits_value 10 word → 0 < length word → length word ≤ 19 → (get_or word 0 0 ≡ 48 → ⊥) → word ≡ decimal n
spelled_by_digits word n digits value some few front =
    let small : digits_value 10 word < 10 ^ 19 = digits_value_short own word 19 digits few in
    rw value (sym (decimal-digits_value own word digits some (λ zero. absurd (front zero)) (omega arith)))

pub one_zero : (word : List ℕ) → length word ≡ 1 → get_or word 0 0 ≡ 48 → word ≡ decimal 0
one_zero [] one front = absurd (omega arith)
one_zero (byte ∷ []) one front = ap (λ (b : ℕ). b ∷ []) front ∙ sym (decimal_digit 0 (omega arith))
one_zero (byte ∷ next ∷ rest) one front = absurd (omega arith)

pub one_byte : (word : List ℕ) (n : ℕ) → n < 10 ^ 19 → word ≡ decimal n → get_or word 0 0 ≡ 48 → length word ≡ 1
one_byte word n small e front =
    let same : word ≡ decimal 0 = e ∙ ap decimal (spelled_zero word n small e front) in
    ap length same ∙ ap length (decimal_digit 0 (omega arith))

-- after a sign it is the spelling of a negative number
pub spelled_negative : (word : List ℕ) (z : ℤ) → FitsSigned w64 z → 45 ∷ word ≡ signed_decimal z → (n : ℕ) × (n < 2 ^ 63) × (z ≡ negsuc n) × (word ≡ decimal (n + 1))
spelled_negative word (pos n) fits e =
    let digit = digit_among (45 ∷ word) 0 45 (spelled_digits (45 ∷ word) n (omega (arith, mag_small (pos n) fits)) e).0 (omega arith) refl in
    absurd (omega (arith, digit.0))
spelled_negative word (negsuc n) fits e =
    let small = mag_small (negsuc n) fits in
    let rest : word ≡ decimal (suc n) = cc in
    (n, small, refl, rw add-one rest)
