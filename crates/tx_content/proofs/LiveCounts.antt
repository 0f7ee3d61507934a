-- How many transactions are live, where one comes or goes.
use Rattle.std.proofs.Common.{◌≡◌, ℕ, zero, suc, ◌+◌, ◌-◌, ◌≤◌, Bool, true, false, List, [], ◌∷◌, Option, Some, None, is_some, if◌then◌else◌, nat_lt, ◌==◌, eqb-true, length, replicate, get_or, ap, sym, ◌∙◌, arith, refl, inl, inr}
use Rattle.std.proofs.lemmas.List.{get_or_past}
use Rattle.std.proofs.lemmas.Bool.{cases_Bool, eqb-false, ltb-true, ltb-false}
use Rattle.std.proofs.lemmas.List.Sums.{sum_by-set, count_by-le-length, get_or-le-sum_by}
use Rattle.std.specs.Option.{option_copied}
use Rattle.std.specs.Borrow.{Bor}
use Rattle.std.specs.Prelude.{◌↔◌, IsTrue}
use Rattle.tx_base.specs.SlotFacts.{length-with_slot}
use Rattle.tx_base.specs.Slots.{slot_at, with_slot}
use Rattle.tx_content.specs.Tables.{IsCounted, live_count}
use Rattle.tx_content.specs.declared.content.BoxedTxn.{BoxedTxn}

abbrev pub one_if : Option BoxedTxn → ℕ
one_if slot = if is_some slot then 1 else 0

pub count-with_slot : (slots : List (Option BoxedTxn)) (n : ℕ) (slot : Option BoxedTxn) → 1 ≤ n → n ≤ length slots →
    live_count (with_slot slots n slot) + one_if (slot_at slots n) ≡ live_count slots + one_if slot
count-with_slot slots zero slot low high = absurd (omega arith)
count-with_slot slots (suc n) slot low high =
    let place : suc n - 1 ≡ n = omega arith in
    rw place (sum_by-set one_if slots n slot None (omega arith))

pub none_live : (width : ℕ) → live_count (replicate width None) ≡ 0
none_live zero = refl
none_live (suc width) = none_live width

pub count_fits : (slots : List (Option BoxedTxn)) → live_count slots ≤ length slots
count_fits slots = count_by-le-length is_some slots

-- one that goes is counted no more
pub one_gone : (slots table : List (Option BoxedTxn)) (n : ℕ) (was : Option BoxedTxn) (live : ℕ) → 1 ≤ n → n ≤ length slots → IsCounted slots live →
    table ≡ with_slot slots n None → was ≡ slot_at slots n → is_some was ≡ true → IsCounted table (live - 1)
one_gone slots table n was live low high counted made there some =
    let step = count-with_slot slots n None low high in
    let one : one_if (slot_at slots n) ≡ 1 = ap one_if (sym there) ∙ ap (λ (b : Bool). if b then 1 else 0) some in
    let count = counted.count in
    let few = counted.few in
    rw made (record { count = omega (arith, step, one, count); few = rw length-with_slot few })

pub none_gone : (slots table : List (Option BoxedTxn)) (n : ℕ) (was : Option BoxedTxn) (live : ℕ) → 1 ≤ n → n ≤ length slots → IsCounted slots live →
    table ≡ with_slot slots n None → was ≡ slot_at slots n → is_some was ≡ false → IsCounted table live
none_gone slots table n was live low high counted made there none =
    let step = count-with_slot slots n None low high in
    let free : one_if (slot_at slots n) ≡ 0 = ap one_if (sym there) ∙ ap (λ (b : Bool). if b then 1 else 0) none in
    let count = counted.count in
    let few = counted.few in
    rw made (record { count = omega (arith, step, free, count); few = rw length-with_slot few })

-- one that comes is counted
pub one_came : (slots table : List (Option BoxedTxn)) (n : ℕ) (boxed : BoxedTxn) (live : ℕ) → 1 ≤ n → n ≤ length slots → IsCounted slots live →
    table ≡ with_slot slots n (Some boxed) → is_some (slot_at slots n) ≡ false → IsCounted table (live + 1)
one_came slots table n boxed live low high counted made none =
    let step = count-with_slot slots n (Some boxed) low high in
    let free : one_if (slot_at slots n) ≡ 0 = ap (λ (b : Bool). if b then 1 else 0) none in
    let count = counted.count in
    let few = counted.few in
    rw made (record { count = omega (arith, step, free, count); few = rw length-with_slot few })

pub one_replaced : (slots table : List (Option BoxedTxn)) (n : ℕ) (boxed : BoxedTxn) (live : ℕ) → 1 ≤ n → n ≤ length slots → IsCounted slots live →
    table ≡ with_slot slots n (Some boxed) → is_some (slot_at slots n) ≡ true → IsCounted table live
one_replaced slots table n boxed live low high counted made some =
    let step = count-with_slot slots n (Some boxed) low high in
    let one : one_if (slot_at slots n) ≡ 1 = ap (λ (b : Bool). if b then 1 else 0) some in
    let count = counted.count in
    let few = counted.few in
    rw made (record { count = omega (arith, step, one, count); few = rw length-with_slot few })

-- none is live exactly where no slot has one
pub idle_is : (slots : List (Option BoxedTxn)) → live_count slots ≡ 0 → (s : ℕ) → slot_at slots s ≡ None
idle_is slots none zero = refl
idle_is slots none (suc s) = elim (cases_Bool (nat_lt s (length slots))) [
  | inl there ↦ let hits = get_or-le-sum_by one_if slots s None (ltb-true s (length slots) there) in by (get_or slots s None) (omega (arith, hits, none))
  | inr past ↦ get_or_past slots s None (ltb-false s (length slots) past)
]
  where
    by : (slot : Option BoxedTxn) → one_if slot ≤ 0 → slot ≡ None
    by None small = refl
    by (Some boxed) small = absurd (omega arith)

pub is_idle : (slots : List (Option BoxedTxn)) → ((s : ℕ) → slot_at slots s ≡ None) → live_count slots ≡ 0
is_idle [] none = refl
is_idle (None ∷ slots) none = is_idle slots rest
  where
    rest : (s : ℕ) → slot_at slots s ≡ None
    rest zero = refl
    rest (suc s) = none (suc (suc s))
is_idle (Some boxed ∷ slots) none = absurd (let first : Some boxed ≡ None = none 1 in cc)

pub copied_some : (boxed : Option (Bor BoxedTxn)) → is_some (option_copied boxed) ≡ is_some boxed
copied_some None = refl
copied_some (Some boxed) = refl

pub idle_told : (slots : List (Option BoxedTxn)) (live : ℕ) → live ≡ live_count slots → IsTrue (live == 0) ↔ ((s : ℕ) → slot_at slots s ≡ None)
idle_told slots live counted = by (live == 0) refl
  where
    by : (b : Bool) → (live == 0) ≡ b → IsTrue b ↔ ((s : ℕ) → slot_at slots s ≡ None)
    by true e = (λ u. idle_is slots (sym counted ∙ eqb-true live 0 e), λ none. refl)
    by false e = (λ u. absurd (let no : ⊥ = cc in no), λ none. absurd (eqb-false live 0 e (counted ∙ is_idle slots none)))
