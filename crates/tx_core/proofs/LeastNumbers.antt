-- The least number that passes a test, by a search from below.
use Rattle.std.proofs.Common.{◌≡◌, ℕ, zero, suc, ◌+◌, ◌<◌, ◌≤◌, Bool, true, false, ◌&&◌, Option, Some, None, if◌then◌else◌, refl, sym, ap, ◌∙◌, subst, inl, inr, arith}
use Rattle.std.proofs.lemmas.Bool.{both_ways, cases_Bool, cases_eq}
use Rattle.std.proofs.Math.Bool.{and-true}
use Rattle.tx_model.specs.FreeNumbers.{is_other_than, least_two, with_second}
use Rattle.tx_model.specs.View.{least}

-- no number below passes
abbrev pub NoneBelow : (ℕ → Bool) → ℕ → Type 0
NoneBelow P n = (m : ℕ) → m < n → P m ≡ false

pub none_at_first : (P : ℕ → Bool) → NoneBelow P 0
none_at_first P m below = absurd (omega (arith, below))

pub none_further : (P : ℕ → Bool) (n : ℕ) → NoneBelow P n → P n ≡ false → NoneBelow P (n + 1)
none_further P n none fails m below = elim (cases_eq m n) [
  | inl same ↦ subst (λ (k : ℕ). P k ≡ false) (sym same) fails
  | inr other ↦ none m (omega (arith, below, other))
]

-- where no number up to the last one passes, there is none
pub least_none : (P : ℕ → Bool) (last : ℕ) → NoneBelow P (last + 1) → None ≡ least P last
unfolding least
least_none P zero none = rw (none 0 (omega arith)) refl
least_none P (suc last) none =
    let lower : least P last ≡ None = sym (least_none P last (λ m below. none m (omega (arith, below)))) in
    let here : P (suc last) ≡ false = none (suc last) (omega arith) in
    rw (lower, here) refl

-- a number that passes, and below which none does, is the least one
pub least_some : (P : ℕ → Bool) (last n : ℕ) → NoneBelow P n → P n ≡ true → n ≤ last → Some n ≡ least P last
unfolding least
least_some P zero n none passes within =
    let z : n ≡ zero = omega (arith, within) in
    subst (λ (k : ℕ). P k ≡ true → Some k ≡ (if P zero then Some zero else None)) (sym z) (λ e. rw e refl) passes
least_some P (suc last) n none passes within = elim (cases_eq n (suc last)) [
  | inl same ↦
      let lower : least P last ≡ None = sym (least_none P last (λ m below. none m (omega (arith, below, same)))) in
      let here : P (suc last) ≡ true = subst (λ (k : ℕ). P k ≡ true) same passes in
      rw (lower, here) (ap Some same)
  | inr other ↦ let lower : least P last ≡ Some n = sym (least_some P last n none passes (omega (arith, within, other))) in rw lower refl
]

-- where one number alone may pass, it is the least one exactly if it does
pub least_only : (P : ℕ → Bool) (last n : ℕ) → ((m : ℕ) → P m ≡ true → m ≡ n) → n ≤ last → least P last ≡ (if P n then Some n else None)
least_only P last n alone within = by (P n) refl
  where
    fails : (m : ℕ) → (P m ≡ true → ⊥) → P m ≡ false
    fails m never = elim (cases_Bool (P m)) [
      | inl e ↦ absurd (never e)
      | inr e ↦ e
    ]

    by : (b : Bool) → P n ≡ b → least P last ≡ (if b then Some n else None)
    by true e = sym (least_some P last n (λ m below. fails m (λ passes. let z : m ≡ n = alone m passes in omega (arith, below, z))) e within)
    by false e = sym (least_none P last (λ m below. fails m (λ passes. both_ways (P n) e (subst (λ (k : ℕ). P k ≡ true) (alone m passes) passes))))

-- every number passes where there is no other one
any_other : (P : ℕ → Bool) (last : ℕ) → least (λ n. P n && is_other_than None n) last ≡ least P last
any_other P last = ap (λ (Q : ℕ → Bool). least Q last) (λ j n. and-true (P n) j)

-- the two least numbers, by the least one and the least that is another
pub two_least : (P : ℕ → Bool) (last : ℕ) (first second : Option ℕ) → first ≡ least (λ n. P n && is_other_than None n) last → second ≡ least (λ n. P n && is_other_than first n) last →
    with_second first second ≡ least_two P last
two_least P last first second one other =
    let same : first ≡ least P last = one ∙ any_other P last in
    ap (with_second first) other ∙ (λ j. with_second (same j) (least (λ n. P n && is_other_than (same j) n) last))
