-- Two numbers with a space between them.
use Rattle.std.proofs.Common.{◌≡◌, ℕ, ◌<◌, ◌^◌, List, [], ◌∷◌, ◌++◌, Option, Some, None, sym, ap, ◌∙◌, arith, eq-eqb, refl, subst, inl, inr}
use Rattle.std.proofs.lemmas.Bool.{ne_eqb}
use Rattle.std.proofs.lemmas.Bool.Decides.{eqb_tells}
use Rattle.std.proofs.lemmas.Fmt.{decimal_is_IsNumeral}
use Rattle.std.specs.Char.{digit_value}
use Rattle.std.specs.Fmt.{decimal}
use Rattle.std.specs.Str.Parse.{AllDigits}
use Rattle.tx_lines.specs.Words.{first_word, parts_at, with_front}

-- none of the bytes is the mark
unfoldable IsFree : ℕ → List ℕ → Type 0
IsFree mark [] = Unit {0}
IsFree mark (byte ∷ bytes) = (byte ≡ mark → ⊥) × IsFree mark bytes

parts_at-word : (mark : ℕ) (word rest : List ℕ) → IsFree mark word → parts_at mark (word ++ mark ∷ rest) ≡ Some (word, rest)
unfolding IsFree
parts_at-word mark [] rest free = rw (eq-eqb mark mark refl) refl
parts_at-word mark (byte ∷ word) rest free = rw (ne_eqb byte mark free.0, parts_at-word mark word rest free.1) refl

free_digits : (mark : ℕ) → (digit_value mark < 10 → ⊥) → (bytes : List ℕ) → AllDigits 10 bytes → IsFree mark bytes
unfolding IsFree
free_digits mark other [] digits = tt
free_digits mark other (byte ∷ bytes) digits =
    ((λ e. other (subst (λ (b : ℕ). digit_value b < 10) e digits.0)), free_digits mark other bytes digits.1)

free_number : (n : ℕ) → n < 2 ^ 63 → IsFree 32 (decimal n)
free_number n small = free_digits 32 (λ h. omega arith) (decimal n) (decimal_is_IsNumeral n (omega arith)).0.1

-- a number is the first word, and what follows it the rest
pub number_first : (words : List ℕ) (n : ℕ) (rest : List ℕ) → n < 2 ^ 63 → words ≡ decimal n ++ 32 ∷ rest → first_word words ≡ Some (decimal n, rest)
number_first words n rest small spelled = ap first_word spelled ∙ parts_at-word 32 (decimal n) rest (free_number n small)

pub two_words : (numbers : List ℕ) (first last : ℕ) → first < 2 ^ 63 → numbers ≡ decimal first ++ 32 ∷ decimal last → first_word numbers ≡ Some (decimal first, decimal last)
two_words numbers first last small spelled = number_first numbers first (decimal last) small spelled

parts_front : (byte : ℕ) (found : Option (List ℕ × List ℕ)) (a b : List ℕ) → with_front byte found ≡ Some (a, b) → (rest : List ℕ) × (a ≡ byte ∷ rest) × (found ≡ Some (rest, b))
parts_front byte None a b e = absurd (cc)
parts_front byte (Some parts) a b e =
    let left : List ℕ × List ℕ = (byte ∷ parts.0, parts.1) in
    let right : List ℕ × List ℕ = (a, b) in
    let pair : left ≡ right = cc in
    (parts.0, sym (ap (λ (p : List ℕ × List ℕ). p.0) pair), ap (λ (q : List ℕ). Some (parts.0, q)) (ap (λ (p : List ℕ × List ℕ). p.1) pair))

-- what a first word was parted from
pub whole_of : (line a b : List ℕ) → first_word line ≡ Some (a, b) → line ≡ a ++ 32 ∷ b
whole_of [] a b e = absurd (cc)
whole_of (byte ∷ bytes) a b e =
    elim (eqb_tells byte 32) [
      | inl h ↦ let here : Some ([], bytes) ≡ Some (a, b) = rw h.0 at e in
          let left : List ℕ × List ℕ = ([], bytes) in
          let right : List ℕ × List ℕ = (a, b) in
          let pair : left ≡ right = cc in
          let front : a ≡ [] = sym (ap (λ (p : List ℕ × List ℕ). p.0) pair) in
          let back : b ≡ bytes = sym (ap (λ (p : List ℕ × List ℕ). p.1) pair) in
          rw (front, back, h.1) refl
      | inr h ↦ let on : with_front byte (parts_at 32 bytes) ≡ Some (a, b) = rw h.0 at e in
          let parts = parts_front byte (parts_at 32 bytes) a b on in
          rw parts.1 (ap (λ t. byte ∷ t) (whole_of bytes parts.0 b parts.2))
    ]

same_parts : (left right : List ℕ × List ℕ) → Some left ≡ Some right → (left.0 ≡ right.0) × (left.1 ≡ right.1)
same_parts left right e =
    let pair : left ≡ right = cc in
    (ap (λ (p : List ℕ × List ℕ). p.0) pair, ap (λ (p : List ℕ × List ℕ). p.1) pair)

-- the words are that number, and what follows it
pub same_first : (words a b : List ℕ) (n : ℕ) (rest : List ℕ) → n < 2 ^ 63 → first_word words ≡ Some (a, b) → words ≡ decimal n ++ 32 ∷ rest → (a ≡ decimal n) × (b ≡ rest)
same_first words a b n rest small parted spelled = same_parts (a, b) (decimal n, rest) (sym parted ∙ number_first words n rest small spelled)

-- they are those numbers
pub same_words : (numbers a b : List ℕ) (first last : ℕ) → first < 2 ^ 63 → first_word numbers ≡ Some (a, b) → numbers ≡ decimal first ++ 32 ∷ decimal last → (a ≡ decimal first) × (b ≡ decimal last)
same_words numbers a b first last small parted spelled = same_first numbers a b first (decimal last) small parted spelled
