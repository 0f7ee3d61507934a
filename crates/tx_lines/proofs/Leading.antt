-- A number at the front of a line, with a space after it.
use Rattle.std.proofs.Common.{◌≡◌, ◌∙◌, ℕ, suc, ◌+◌, ◌-◌, ◌*◌, ◌/◌, ◌%◌, ◌<◌, ◌≤◌, ◌^◌, List, [], ◌∷◌, ◌++◌, take, drop, get_or, length, refl, ap, sym, arith, inl, inr, add-one, drop-cons}
use Rattle.std.specs.Str.Parse.{AllDigits, digits_value}
use Rattle.std.specs.Fmt.{decimal, signed_decimal}
use Rattle.std.specs.Int.{w64, IsInRange}
use Rattle.std.specs.Prelude.{ℤ, pos, negsuc, FitsSigned}
use Rattle.std.proofs.lemmas.Bool.{cases_lt}
use Rattle.std.proofs.lemmas.List.{get_or_append_left, get_or-take, length-append, length-drop, length-take, take-append-drop, take_all, take_at}
use Rattle.std.proofs.Math.Seq.{drop-append-add, get_or-append_seam}
use Rattle.std.proofs.lemmas.Str.Parse.{digit_at, digits_value_short}
use Rattle.std.proofs.lemmas.Fmt.{decimal_digit, decimal_step}
use Rattle.tx_lines.specs.Words.{parts_at}
use Rattle.tx_lines.proofs.Digits.{spelled_by_digits, spelled_digits, spelled_length, spelled_zero}
use Rattle.tx_lines.proofs.FirstWord.{free_decimal, parts_at-word, same_parts}
use Rattle.tx_lines.specs.NumberFacts.{mag_small, own}

module _ (line : List ℕ) (n : ℕ) (rest : List ℕ) (small : n < 10 ^ 19) (e : line ≡ decimal n ++ 32 ∷ rest) where
  -- the space comes after the digits
  pub space_after : get_or line (length (decimal n)) 0 ≡ 32
  space_after = rw e (get_or-append_seam (decimal n) 32 rest 0)

  pub space_inside : length (decimal n) < length line
  space_inside =
      let whole : length line ≡ length (decimal n) + suc (length rest) = ap length e ∙ length-append (decimal n) (32 ∷ rest) in
      omega (arith, whole)

  -- and before it are only digits
  pub digit_before : (i : ℕ) → i < length (decimal n) → IsInRange 48 57 (get_or line i 0)
  digit_before i below =
      let read : get_or line i 0 ≡ get_or (decimal n) i 0 = ap (λ (bytes : List ℕ). get_or bytes i 0) e ∙ get_or_append_left (decimal n) (32 ∷ rest) 0 i below in
      rw read (digit_at (decimal n) i (spelled_digits (decimal n) n small refl).0 below)

  -- digits do not go past it
  pub not_past : (i : ℕ) → AllDigits 10 (take i line) → i ≤ length line → i ≤ length (decimal n)
  not_past i digits within =
      elim (cases_lt (length (decimal n)) i) [
        | inl past ↦
            let read : get_or (take i line) (length (decimal n)) 0 ≡ 32 = get_or-take i line (length (decimal n)) 0 past ∙ space_after in
            let digit : IsInRange 48 57 (get_or (take i line) (length (decimal n)) 0) = digit_at (take i line) (length (decimal n)) digits (omega (arith, length-take i line)) in
            absurd (omega (arith, read, digit.0))
        | inr within' ↦ within'
      ]

  -- a space after only digits is that space
  pub is_that_space : (i : ℕ) → AllDigits 10 (take i line) → i < length line → get_or line i 0 ≡ 32 → i ≡ length (decimal n)
  is_that_space i digits within here =
      elim (cases_lt i (length (decimal n))) [
        | inl before ↦ absurd (omega (arith, here, (digit_before i before).0))
        | inr after ↦ omega (arith, not_past i digits (omega arith), after)
      ]

  -- and another byte after only digits is a digit before it
  pub is_before_space : (i : ℕ) → AllDigits 10 (take i line) → i < length line → (get_or line i 0 ≡ 32 → ⊥) → i < length (decimal n)
  is_before_space i digits within other =
      elim (cases_lt i (length (decimal n))) [
        | inl before ↦ before
        | inr after ↦
            let same : i ≡ length (decimal n) = omega (arith, not_past i digits (omega arith), after) in
            absurd (other (ap (λ (k : ℕ). get_or line k 0) same ∙ space_after))
      ]

  -- so many bytes are the digits
  pub same_word : (count : ℕ) → count ≡ length (decimal n) → take count line ≡ decimal n
  same_word count at = ap (λ (bytes : List ℕ). take count bytes) e ∙ take_at (decimal n) (32 ∷ rest) count (sym at)

  pub same_rest : (count : ℕ) → count ≡ length (decimal n) → drop (count + 1) line ≡ rest
  same_rest count at =
      ap (λ (bytes : List ℕ). drop (count + 1) bytes) e
      ∙ ap (λ (k : ℕ). drop (k + 1) (decimal n ++ 32 ∷ rest)) at
      ∙ drop-append-add (decimal n) (32 ∷ rest) 1

  pub same_value : (count number : ℕ) → count ≡ length (decimal n) → number ≡ digits_value 10 (take count line) → number ≡ n
  same_value count number at value =
      value ∙ ap (digits_value 10) (same_word count at) ∙ (spelled_digits (decimal n) n small refl).1

  -- with a 0 in front the number is 0
  pub zero_front : get_or line 0 0 ≡ 48 → n ≡ 0
  zero_front front =
      let some : 0 < length (decimal n) = (spelled_length (decimal n) n small refl).0 in
      let first : get_or (decimal n) 0 0 ≡ 48 = sym (get_or_append_left (decimal n) (32 ∷ rest) 0 0 some) ∙ sym (ap (λ (bytes : List ℕ). get_or bytes 0 0) e) ∙ front in
      spelled_zero (decimal n) n small refl first

-- a line with a space at a place
pub parted : (line : List ℕ) (i : ℕ) → i < length line → get_or line i 0 ≡ 32 → line ≡ take i line ++ 32 ∷ drop (i + 1) line
parted line i within here =
    sym (take-append-drop i line)
    ∙ ap (λ (bytes : List ℕ). take i line ++ bytes) (drop-cons line i 0 within ∙ ap (λ (byte : ℕ). byte ∷ drop (suc i) line) here)
    ∙ ap (λ (k : ℕ). take i line ++ 32 ∷ drop k line) (sym (add-one i))

-- all that is left after some bytes
pub all_left : (line : List ℕ) (k : ℕ) → take (length line - k) (drop k line) ≡ drop k line
all_left line k = take_all (length line - k) (drop k line) (omega (arith, length-drop k line))

-- a digit and a space spell a number
pub digit_front : (line : List ℕ) (number : ℕ) → 1 < length line → get_or line 1 0 ≡ 32 → IsInRange 48 57 (get_or line 0 0) → number ≡ get_or line 0 0 - 48
    → line ≡ decimal number ++ 32 ∷ take (length line - 2) (drop 2 line)
digit_front [] number within here digit same = absurd (omega arith)
digit_front (byte ∷ []) number within here digit same = absurd (omega arith)
digit_front (byte ∷ next ∷ rest) number within here digit same =
    let spelled : decimal number ≡ (48 + number) ∷ [] = decimal_digit number (omega (arith, digit.1)) in
    let first : 48 + number ≡ byte = omega (arith, digit.0) in
    let whole : byte ∷ next ∷ rest ≡ decimal number ++ 32 ∷ rest = rw (spelled, first, here) refl in
    whole ∙ ap (λ (bytes : List ℕ). decimal number ++ 32 ∷ bytes) (sym (all_left (byte ∷ next ∷ rest) 2))

-- two digits and a space spell a number, where the first is not 0
pub two_front : (line : List ℕ) (number : ℕ) → 2 < length line → get_or line 2 0 ≡ 32 → 48 < get_or line 0 0 → IsInRange 48 57 (get_or line 0 0) → IsInRange 48 57 (get_or line 1 0)
    → number ≡ 10 * (get_or line 0 0 - 48) + (get_or line 1 0 - 48) → line ≡ decimal number ++ 32 ∷ take (length line - 3) (drop 3 line)
two_front [] number within here front tens ones same = absurd (omega arith)
two_front (first ∷ []) number within here front tens ones same = absurd (omega arith)
two_front (first ∷ second ∷ []) number within here front tens ones same = absurd (omega arith)
two_front (first ∷ second ∷ next ∷ rest) number within here front tens ones same =
    let ten : number / 10 ≡ first - 48 = omega (arith, same, ones.0, ones.1) in
    let one : 48 + number % 10 ≡ second = omega (arith, same, ones.0, ones.1) in
    let byte : 48 + number / 10 ≡ first = omega (arith, ten, tens.0) in
    let digit : decimal (number / 10) ≡ first ∷ [] = decimal_digit (number / 10) (omega (arith, ten, tens.1)) ∙ ap (λ (b : ℕ). b ∷ []) byte in
    let spelled : decimal number ≡ decimal (number / 10) ++ (48 + number % 10) ∷ [] = decimal_step number (omega (arith, same, front)) (omega (arith, same, tens.1, ones.1)) in
    let whole : first ∷ second ∷ next ∷ rest ≡ decimal number ++ 32 ∷ rest = rw (spelled, digit, one, here) refl in
    whole ∙ ap (λ (bytes : List ℕ). decimal number ++ 32 ∷ bytes) (sym (all_left (first ∷ second ∷ next ∷ rest) 3))

-- digits and a space spell a number, where the first is not 0
pub spelled_front : (line : List ℕ) (i number : ℕ) → AllDigits 10 (take i line) → number ≡ digits_value 10 (take i line) → 0 < i → i < 20 → i < length line → get_or line i 0 ≡ 32
    → (get_or line 0 0 ≡ 48 → ⊥) → line ≡ decimal number ++ 32 ∷ drop (i + 1) line
spelled_front line i number digits value some few within here front =
    let long = length-take i line in
    let front' : get_or (take i line) 0 0 ≡ 48 → ⊥ = λ zero. front (sym (get_or-take i line 0 0 some) ∙ zero) in
    let word : take i line ≡ decimal number = spelled_by_digits (take i line) number digits value (omega (arith, long)) (omega (arith, long)) front' in
    parted line i within here ∙ ap (λ (bytes : List ℕ). bytes ++ 32 ∷ drop (i + 1) line) word

-- a line begins with only one number
pub same_front : (line : List ℕ) (m n : ℕ) (rest left : List ℕ) → m < 10 ^ 19 → n < 10 ^ 19 → line ≡ decimal m ++ 32 ∷ rest → line ≡ decimal n ++ 32 ∷ left → (m ≡ n) × (rest ≡ left)
same_front line m n rest left m_small n_small e f =
    let first = parts_at-word 32 (decimal m) rest (free_decimal m (omega arith)).0 in
    let second = parts_at-word 32 (decimal n) left (free_decimal n (omega arith)).0 in
    let parts = same_parts (decimal m, rest) (decimal n, left) (sym first ∙ ap (parts_at 32) (sym e ∙ f) ∙ second) in
    (sym (spelled_digits (decimal m) m m_small refl).1 ∙ ap (digits_value 10) parts.0 ∙ (spelled_digits (decimal n) n n_small refl).1, parts.1)

-- a line that begins with another number has no digit and a space in front
pub longer_front : (line : List ℕ) (n : ℕ) (rest : List ℕ) → line ≡ decimal n ++ 32 ∷ rest → (1 < length line → get_or line 1 0 ≡ 32 → IsInRange 48 57 (get_or line 0 0) → ⊥) → 10 ≤ n
longer_front line n rest e none =
    elim (cases_lt n 10) [
      | inl digit ↦
          let here : line ≡ (48 + n) ∷ 32 ∷ rest = e ∙ ap (λ (word : List ℕ). word ++ 32 ∷ rest) (decimal_digit n digit) in
          absurd (none (rw here (omega arith)) (rw here refl) (rw here (omega arith, omega arith)))
      | inr large ↦ large
    ]

-- where a line spells a number without a sign at its front, it spells no other one
pub number_front : (line : List ℕ) (m : ℕ) (rest : List ℕ) (z : ℤ) (left : List ℕ) → m < 10 ^ 19 → line ≡ decimal m ++ 32 ∷ rest → FitsSigned w64 z → line ≡ signed_decimal z ++ 32 ∷ left
    → (n : ℕ) × (n < 2 ^ 63) × (z ≡ pos n) × (line ≡ decimal n ++ 32 ∷ left)
number_front line m rest (pos n) left small found fits e = (n, mag_small (pos n) fits, refl, e)
number_front line m rest (negsuc n) left small found fits e =
    let digit = digit_before line m rest small found 0 (spelled_length (decimal m) m small refl).0 in
    let sign : get_or line 0 0 ≡ 45 = ap (λ (bytes : List ℕ). get_or bytes 0 0) e in
    absurd (omega (arith, sign, digit.0))

-- so few digits make no larger number
pub value_small : (line : List ℕ) (i : ℕ) → AllDigits 10 (take i line) → i < 20 → digits_value 10 (take i line) < 10 ^ 19
value_small line i digits few = digits_value_short own (take i line) 19 digits (omega (arith, length-take i line))
