-- Places of words, one bit edited.
use Rattle.std.proofs.Common.{◌≡◌, ◌≢◌, ℕ, ◌+◌, ◌*◌, ◌/◌, ◌%◌, ◌^◌, ◌<◌, ◌≤◌, Bool, true, false, List, length, if◌then◌else◌, ◌==◌, bit_and, bit_or, w32, arith, ap, sym, ◌∙◌, ◌↔◌, ◌⊎◌, inl, inr, get_or, eqb-true, slice_set}
use Rattle.std.proofs.lemmas.Bool.{eqb-false, cases_Bool, cases_eq}
use Rattle.std.proofs.lemmas.Nat.{and_le_l}
use Rattle.std.proofs.lemmas.Nat.Bits.{bit_at-trailing_zeros, bit_at-zero, bit_at_set_same, bit_at_set_other, bit_at_clear_same, bit_at_clear_other}
use Rattle.std.proofs.lemmas.List.Sums.{sum_by-set}
use Rattle.std.specs.Int.{bit_at, bit_not, trailing_zeros}
use Rattle.std.specs.List.{sum}
use Rattle.std.proofs.lemmas.List.{get_or-set_same, get_or-set_other}
use Rattle.tx_reserve.specs.Objects.{IsInWord, has_place}

-- two places of one word have different bits in it
other_bit : (p q : ℕ) → q ≢ p → q / 32 ≡ p / 32 → q % 32 ≡ p % 32 → ⊥
other_bit p q ne word bit = ne (omega arith)

-- a word in place of the one that has the bit of place p: it has its own bit there, and the others as they were
pub edited : (words : List ℕ) (p q w : ℕ) (b : Bool) → p / 32 < length words → (bit_at w (p % 32) == 1) ≡ b
    → ((i : ℕ) → i < 32 → i ≢ p % 32 → bit_at w i ≡ bit_at (get_or words (p / 32) 0) i)
    → has_place (slice_set words (p / 32) w) q ≡ (if q == p then b else has_place words q)
unfolding has_place
edited words p q w b within same other = elim (cases_Bool (q == p)) [
  | inl e ↦ rw e (ap (λ (k : ℕ). bit_at (get_or (slice_set words (p / 32) w) (k / 32) 0) (k % 32) == 1) (eqb-true q p e)
      ∙ ap (λ (x : ℕ). bit_at x (p % 32) == 1) (get_or-set_same words (p / 32) w 0 within) ∙ same)
  | inr e ↦ rw e (elim (cases_Bool (q / 32 == p / 32)) [
    | inl f ↦ ap (λ (k : ℕ). bit_at (get_or (slice_set words (p / 32) w) k 0) (q % 32) == 1) (eqb-true (q / 32) (p / 32) f)
        ∙ ap (λ (x : ℕ). bit_at x (q % 32) == 1) (get_or-set_same words (p / 32) w 0 within)
        ∙ ap (λ (x : ℕ). x == 1) (other (q % 32) (omega arith) (λ z. other_bit p q (eqb-false q p e) (eqb-true (q / 32) (p / 32) f) z))
        ∙ ap (λ (k : ℕ). bit_at (get_or words k 0) (q % 32) == 1) (sym (eqb-true (q / 32) (p / 32) f))
    | inr f ↦ ap (λ (x : ℕ). bit_at x (q % 32) == 1) (get_or-set_other words (p / 32) (q / 32) w 0 (eqb-false (q / 32) (p / 32) f))
  ])
]

-- the bit of place p set
pub put_edits : (words : List ℕ) (p : ℕ) → p / 32 < length words → (q : ℕ) →
    has_place (slice_set words (p / 32) (bit_or (get_or words (p / 32) 0) (1 * 2 ^ (p % 32) % 2 ^ 32))) q ≡ (if q == p then true else has_place words q)
put_edits words p within q =
    let k : p % 32 < 32 = omega arith in
    edited words p q _ true within (ap (λ (x : ℕ). x == 1) (bit_at_set_same w32 (get_or words (p / 32) 0) (p % 32) k))
    (λ i small ne. bit_at_set_other w32 (get_or words (p / 32) 0) (p % 32) k i ne)

-- the bit of place p cleared
pub clear_edits : (words : List ℕ) (p : ℕ) → p / 32 < length words → (q : ℕ) →
    has_place (slice_set words (p / 32) (bit_and (get_or words (p / 32) 0) (bit_not w32 (1 * 2 ^ (p % 32) % 2 ^ 32)))) q ≡ (if q == p then false else has_place words q)
clear_edits words p within q =
    let k : p % 32 < 32 = omega arith in
    edited words p q _ false within (ap (λ (x : ℕ). x == 1) (bit_at_clear_same w32 (get_or words (p / 32) 0) (p % 32) k))
    (λ i small ne. bit_at_clear_other w32 (get_or words (p / 32) 0) (p % 32) k i small ne)

-- a word is less with a bit cleared that was set
pub clear_less : (w k : ℕ) → k < 32 → bit_at w k ≡ 1 → bit_and w (bit_not w32 (1 * 2 ^ k % 2 ^ 32)) < w
clear_less w k within one =
    let left = bit_and w (bit_not w32 (1 * 2 ^ k % 2 ^ 32)) in
    let most : left ≤ w = and_le_l w (bit_not w32 (1 * 2 ^ k % 2 ^ 32)) in
    let none : bit_at left k ≡ 0 = bit_at_clear_same w32 w k within in
    let other : left ≢ w = λ e. differ (bit_at left k) (bit_at w k) none one (ap (λ (n : ℕ). bit_at n k) e) in
    omega arith
  where
    differ : (a b : ℕ) → a ≡ 0 → b ≡ 1 → a ≡ b → ⊥
    differ a b x y e = omega arith

-- and so is the sum of words, with the bit of place p cleared
pub clear_falls : (words : List ℕ) (p : ℕ) → p / 32 < length words → has_place words p ≡ true →
    sum (slice_set words (p / 32) (bit_and (get_or words (p / 32) 0) (bit_not w32 (1 * 2 ^ (p % 32) % 2 ^ 32)))) < sum words
unfolding has_place
clear_falls words p within set =
    let w = get_or words (p / 32) 0 in
    let left = bit_and w (bit_not w32 (1 * 2 ^ (p % 32) % 2 ^ 32)) in
    let less : left < w = clear_less w (p % 32) (omega arith) (eqb-true (bit_at w (p % 32)) 1 set) in
    let total : sum (slice_set words (p / 32) left) + w ≡ sum words + left = sum_by-set (λ (x : ℕ). x) words (p / 32) left 0 within in
    omega arith

-- a word is less without its lowest bit
pub lowest_falls : (bits : ℕ) → 0 < bits → bits < 2 ^ 32 → bit_and bits (bit_not w32 (1 * 2 ^ trailing_zeros w32 bits % 2 ^ 32)) < bits
lowest_falls bits positive fits =
    let lowest = bit_at-trailing_zeros w32 bits positive fits in
    clear_less bits (trailing_zeros w32 bits) lowest.0 lowest.1

-- the bits of a word are its lowest one, and those that are left without it
pub lowest_or_left : (word bits place : ℕ) → 0 < bits → bits < 2 ^ 32 → IsInWord word bits place
    ↔ ((place ≡ 32 * word + trailing_zeros w32 bits) ⊎ IsInWord word (bit_and bits (bit_not w32 (1 * 2 ^ trailing_zeros w32 bits % 2 ^ 32))) place)
lowest_or_left word bits place positive fits = (
  λ there. elim (cases_eq (place % 32) k) [
    | inl e ↦ let here = there.here in inl (omega arith)
    | inr ne ↦ inr (record { here = there.here; set = other ne ∙ there.set })
  ],
  λ either. elim either [
    | inl e ↦
        let within = lowest.0 in
        let bit : place % 32 ≡ k = omega arith in
        record { here = omega arith; set = ap (bit_at bits) bit ∙ lowest.1 }
    | inr there ↦
        let clear : bit_at left k ≡ 0 = bit_at_clear_same w32 bits k lowest.0 in
        let ne : place % 32 ≢ k = λ e. let same : bit_at left (place % 32) ≡ bit_at left k = ap (bit_at left) e in let set = there.set in omega arith in
        record { here = there.here; set = sym (other ne) ∙ there.set }
  ],
)
  where
    k : ℕ
    k = trailing_zeros w32 bits

    left : ℕ
    left = bit_and bits (bit_not w32 (1 * 2 ^ k % 2 ^ 32))

    lowest : (k < 32) × (bit_at bits k ≡ 1) × ((i : ℕ) → i < k → bit_at bits i ≡ 0)
    lowest = bit_at-trailing_zeros w32 bits positive fits

    other : place % 32 ≢ k → bit_at left (place % 32) ≡ bit_at bits (place % 32)
    other ne = bit_at_clear_other w32 bits k lowest.0 (place % 32) (omega arith) ne

-- and a word that is 0 has none
pub none_in_word : (word bits place : ℕ) → bits ≡ 0 → IsInWord word bits place → ⊥
none_in_word word bits place zeros there =
    let none : bit_at bits (place % 32) ≡ 0 = ap (λ (w : ℕ). bit_at w (place % 32)) zeros ∙ bit_at-zero (place % 32) in
    let one = there.set in
    omega arith
