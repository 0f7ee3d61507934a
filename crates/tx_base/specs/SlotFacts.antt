-- Facts of slots: of one that is replaced, of the others, and of one that has something. They are
-- proved here, so nobody has to believe them.
use Rattle.std.proofs.Common.{◌≡◌, ◌≢◌, ℕ, zero, suc, ◌-◌, ◌<◌, ◌≤◌, List, [], ◌∷◌, Option, Some, None, length, if◌then◌else◌, ◌==◌, arith, refl, ap, ◌∙◌, inl, inr, eq-eqb, eqb-true}
use Rattle.std.proofs.lemmas.Bool.{both_ways, cases_Bool}
use Rattle.std.proofs.lemmas.List.{set-set, set-get_or, get_or-set_same, get_or-set_other, length-set}
use Rattle.tx_base.specs.Slots.{slot_at, with_slot}

pub slot_twice : {A : Type 0} (slots : List (Option A)) (n : ℕ) (first last : Option A)
    → with_slot (with_slot slots n first) n last ≡ with_slot slots n last
slot_twice slots n first last = set-set slots (n - 1) first last

-- a slot that is replaced by what it has
pub slot_same : {A : Type 0} (slots : List (Option A)) (n : ℕ) → 1 ≤ n
    → with_slot slots n (slot_at slots n) ≡ slots
slot_same slots zero low = absurd (omega arith)
slot_same slots (suc n) low =
    let place : suc n - 1 ≡ n = omega arith in
    rw place (set-get_or slots n None)

pub slot_now : {A : Type 0} (slots : List (Option A)) (n : ℕ) (slot : Option A) → 1 ≤ n
    → n ≤ length slots → slot_at (with_slot slots n slot) n ≡ slot
slot_now slots zero slot low high = absurd (omega arith)
slot_now slots (suc n) slot low high =
    let place : suc n - 1 ≡ n = omega arith in
    rw place (get_or-set_same slots n slot None (omega arith))

pub slot_other : {A : Type 0} (slots : List (Option A)) (n k : ℕ) (slot : Option A) → 1 ≤ n → k ≢ n
    → slot_at (with_slot slots n slot) k ≡ slot_at slots k
slot_other slots n zero slot low apart = refl
slot_other slots n (suc k) slot low apart =
    let elsewhere : k ≢ n - 1 = omega arith in
    get_or-set_other slots (n - 1) k slot None elsewhere

pub length-with_slot : {A : Type 0} (slots : List (Option A)) (n : ℕ) (slot : Option A)
    → length (with_slot slots n slot) ≡ length slots
length-with_slot slots n slot = length-set slots (n - 1) slot

-- what each number has after a slot is replaced
pub slot_at-with_slot : {A : Type 0} (slots : List (Option A)) (p : ℕ) (x : Option A) (n : ℕ)
    → 1 ≤ p → p ≤ length slots
    → slot_at (with_slot slots p x) n ≡ (if n == p then x else slot_at slots n)
slot_at-with_slot slots p x n low high = elim (cases_Bool (n == p)) [
  | inl e ↦ rw e (ap (slot_at (with_slot slots p x)) (eqb-true n p e) ∙ slot_now slots p x low high)
  | inr e ↦ rw e (slot_other slots p n x low (λ z. both_ways (n == p) e (eq-eqb n p z)))
]

slot_in : {A : Type 0} (slots : List (Option A)) (n : ℕ) (x : A) → slot_at slots (suc n) ≡ Some x
    → n < length slots
slot_in [] n x h = cc
slot_in (y ∷ slots) zero x h = omega arith
slot_in (y ∷ slots) (suc n) x h = let z = slot_in slots n x h in omega arith

-- a number whose slot has something is valid
pub slot_there : {A : Type 0} (slots : List (Option A)) (n : ℕ) (x : A) → slot_at slots n ≡ Some x
    → (1 ≤ n) × (n ≤ length slots)
slot_there slots zero x h = cc
slot_there slots (suc n) x h = let z = slot_in slots n x h in (omega arith, omega arith)
