-- The first word of a line, and what follows it.
use Rattle.std.proofs.Common.{◌≡◌, ℕ, zero, suc, ◌+◌, ◌<◌, ◌^◌, List, [], ◌∷◌, ◌++◌, Option, Some, None, false, take, drop, get_or, length, refl, ap, sym, arith, eqb, eq-eqb, subst, inl, inr, add-one}
use Rattle.std.proofs.lemmas.Bool.{ne_eqb}
use Rattle.std.proofs.lemmas.Bool.Decides.{eqb_tells}
use Rattle.std.specs.Char.{digit_value}
use Rattle.std.specs.Str.Parse.{AllDigits}
use Rattle.std.specs.Fmt.{decimal, signed_decimal}
use Rattle.std.specs.Prelude.{ℤ, pos, negsuc, FitsSigned}
use Rattle.std.specs.Int.{w64}
use Rattle.std.proofs.lemmas.Fmt.{decimal_is_IsNumeral}
use Rattle.tx_lines.specs.NumberFacts.{mag_small}
use Rattle.tx_lines.specs.Words.{parts_at, with_front}

parts_at-at : (mark : ℕ) (bytes : List ℕ) (i : ℕ) → ((k : ℕ) → k < i → get_or bytes k 0 ≡ mark → ⊥) → i < length bytes → get_or bytes i 0 ≡ mark →
    parts_at mark bytes ≡ Some (take i bytes, drop (suc i) bytes)
parts_at-at mark [] i none inside here = absurd (omega arith)
parts_at-at mark (byte ∷ bytes) zero none inside here = rw (eq-eqb byte mark here) refl
parts_at-at mark (byte ∷ bytes) (suc i) none inside here =
    let other : eqb byte mark ≡ false = ne_eqb byte mark (none 0 (omega arith)) in
    let rest = parts_at-at mark bytes i (λ k below. none (suc k) (omega arith)) (omega arith) here in
    rw (other, rest) refl

pub parts_at-found : (mark : ℕ) (bytes : List ℕ) (i : ℕ) → ((k : ℕ) → k < i → get_or bytes k 0 ≡ mark → ⊥) → i < length bytes → get_or bytes i 0 ≡ mark →
    Some (take i bytes, drop (i + 1) bytes) ≡ parts_at mark bytes
parts_at-found mark bytes i none inside here = rw add-one (sym (parts_at-at mark bytes i none inside here))

pub parts_at-none : (mark : ℕ) (bytes : List ℕ) → ((k : ℕ) → k < length bytes → get_or bytes k 0 ≡ mark → ⊥) → parts_at mark bytes ≡ None
parts_at-none mark [] none = refl
parts_at-none mark (byte ∷ bytes) none =
    let other : eqb byte mark ≡ false = ne_eqb byte mark (none 0 (omega arith)) in
    let rest = parts_at-none mark bytes (λ k below. none (suc k) (omega arith)) in
    rw (other, rest) refl

-- none of the bytes is the mark
unfoldable pub IsFree : ℕ → List ℕ → Type 0
IsFree mark [] = Unit {0}
IsFree mark (byte ∷ bytes) = (byte ≡ mark → ⊥) × IsFree mark bytes

pub parts_at-word : (mark : ℕ) (word rest : List ℕ) → IsFree mark word → parts_at mark (word ++ mark ∷ rest) ≡ Some (word, rest)
unfolding IsFree
parts_at-word mark [] rest free = rw (eq-eqb mark mark refl) refl
parts_at-word mark (byte ∷ word) rest free = rw (ne_eqb byte mark free.0, parts_at-word mark word rest free.1) refl

pub parts_at-free : (mark : ℕ) (word : List ℕ) → IsFree mark word → parts_at mark word ≡ None
unfolding IsFree
parts_at-free mark [] free = refl
parts_at-free mark (byte ∷ word) free = rw (ne_eqb byte mark free.0, parts_at-free mark word free.1) refl

pub free_digits : (mark : ℕ) → (digit_value mark < 10 → ⊥) → (bytes : List ℕ) → AllDigits 10 bytes → IsFree mark bytes
unfolding IsFree
free_digits mark other [] digits = tt
free_digits mark other (byte ∷ bytes) digits =
    ((λ e. other (subst (λ (b : ℕ). digit_value b < 10) e digits.0)), free_digits mark other bytes digits.1)

-- no number has a space or a comma
pub free_decimal : (n : ℕ) → n < 2 ^ 64 → IsFree 32 (decimal n) × IsFree 44 (decimal n)
free_decimal n small =
    let digits = (decimal_is_IsNumeral n (omega arith)).0.1 in
    (free_digits 32 (λ h. omega arith) (decimal n) digits, free_digits 44 (λ h. omega arith) (decimal n) digits)

pub free_signed : (z : ℤ) → FitsSigned w64 z → IsFree 32 (signed_decimal z)
unfolding IsFree
free_signed (pos n) fits = (free_decimal n (omega (arith, mag_small (pos n) fits))).0
free_signed (negsuc n) fits = ((λ e. let bad : 45 ≡ 32 = e in omega arith), (free_decimal (suc n) (omega (arith, mag_small (negsuc n) fits))).0)

pub parts_front : (byte : ℕ) (found : Option (List ℕ × List ℕ)) (a b : List ℕ) → with_front byte found ≡ Some (a, b) → (rest : List ℕ) × (a ≡ byte ∷ rest) × (found ≡ Some (rest, b))
parts_front byte None a b e = absurd (cc)
parts_front byte (Some parts) a b e =
    let left : List ℕ × List ℕ = (byte ∷ parts.0, parts.1) in
    let right : List ℕ × List ℕ = (a, b) in
    let pair : left ≡ right = cc in
    let front : byte ∷ parts.0 ≡ a = ap (λ (p : List ℕ × List ℕ). p.0) pair in
    let back : parts.1 ≡ b = ap (λ (p : List ℕ × List ℕ). p.1) pair in
    (parts.0, sym front, ap (λ (q : List ℕ). Some (parts.0, q)) back)

pub split_parts : (mark : ℕ) (line a b : List ℕ) → parts_at mark line ≡ Some (a, b) → line ≡ a ++ mark ∷ b
split_parts mark [] a b e = absurd (cc)
split_parts mark (byte ∷ bytes) a b e =
    elim (eqb_tells byte mark) [
      | inl h ↦ let here : Some ([], bytes) ≡ Some (a, b) = rw h.0 at e in
          let left : List ℕ × List ℕ = ([], bytes) in
          let right : List ℕ × List ℕ = (a, b) in
          let pair : left ≡ right = cc in
          let front : a ≡ [] = sym (ap (λ (p : List ℕ × List ℕ). p.0) pair) in
          let back : b ≡ bytes = sym (ap (λ (p : List ℕ × List ℕ). p.1) pair) in
          rw (front, back, h.1) refl
      | inr h ↦ let on : with_front byte (parts_at mark bytes) ≡ Some (a, b) = rw h.0 at e in
          let parts = parts_front byte (parts_at mark bytes) a b on in
          rw parts.1 (ap (λ t. byte ∷ t) (split_parts mark bytes parts.0 b parts.2))
    ]

pub same_parts : (left right : List ℕ × List ℕ) → Some left ≡ Some right → (left.0 ≡ right.0) × (left.1 ≡ right.1)
same_parts left right e =
    let pair : left ≡ right = cc in
    (ap (λ (p : List ℕ × List ℕ). p.0) pair, ap (λ (p : List ℕ × List ℕ). p.1) pair)
