-- The descriptors of all processes, those of one process and those of all others.
use Rattle.std.proofs.Common.{◌≡◌, ◌≢◌, ℕ, zero, suc, ◌+◌, ◌<◌, ◌≤◌, Bool, true, false, List, [], ◌∷◌, ◌++◌, Option, Some, None, is_some, if◌then◌else◌, ◌==◌, length, arith, refl, sym, ap, ap₂, ◌∙◌, inl, inr, eqb-true, length-append}
use Rattle.std.proofs.lemmas.Bool.{cases_Bool, eqb-false, ne_eqb}
use Rattle.std.proofs.lemmas.List.Sums.{sum_by-append}
use Rattle.std.proofs.lemmas.List.Elements.{All-nil, All-append, Contains-append_left, Contains-append_right}
use Rattle.std.specs.List.{All, Contains}
use Rattle.tx_change.specs.Counts.{tables_below}
use Rattle.tx_desc.specs.Counts.{count_in, names_in, table_of, others_below}
use Rattle.tx_desc.specs.Places.{Descriptors}
use Rattle.tx_model.specs.State.{Process, State}

-- those of numbers below n that are not p, and those of p
pub others_past : (d p n : ℕ) (S : State) → n ≤ p → names_in d (tables_below n S) ≡ names_in d (others_below p n S)
unfolding tables_below others_below
others_past d p zero S past = refl
others_past d p (suc n) S past =
    let rest = others_past d p n S (omega arith) in
    let other : (n == p) ≡ false = ne_eqb n p (λ same. omega (arith, same)) in
    rw other
    (sum_by-append (count_in d) (table_of (S.procs n)) (tables_below n S)
    ∙ ap (λ (k : ℕ). names_in d (table_of (S.procs n)) + k) rest
    ∙ sym (sum_by-append (count_in d) (table_of (S.procs n)) (others_below p n S)))

pub split : (d p n : ℕ) (S : State) → p < n → names_in d (tables_below n S) ≡ names_in d (table_of (S.procs p)) + names_in d (others_below p n S)
unfolding tables_below others_below
split d p zero S below = absurd (omega (arith, below))
split d p (suc n) S below = elim (cases_Bool (n == p)) [
  | inl e ↦ rw e
      (let same : n ≡ p = eqb-true n p e in
      sum_by-append (count_in d) (table_of (S.procs n)) (tables_below n S)
      ∙ ap (λ (k : ℕ). names_in d (table_of (S.procs k)) + names_in d (tables_below n S)) same
      ∙ ap (λ (k : ℕ). names_in d (table_of (S.procs p)) + k) (others_past d p n S (omega (arith, same))))
  | inr e ↦ rw e
      (let apart : n ≢ p = eqb-false n p e in
      let rest = split d p n S (omega (arith, apart)) in
      let here : ℕ = names_in d (table_of (S.procs n)) in
      let first = sum_by-append (count_in d) (table_of (S.procs n)) (tables_below n S) in
      let last = sum_by-append (count_in d) (table_of (S.procs n)) (others_below p n S) in
      omega (arith, rest, first, last))
]

-- processes that have the same descriptors
pub others_same : (p n : ℕ) (S T : State) → ((q : ℕ) → q ≢ p → table_of (S.procs q) ≡ table_of (T.procs q)) → others_below p n S ≡ others_below p n T
unfolding others_below
others_same p zero S T same = refl
others_same p (suc n) S T same = elim (cases_Bool (n == p)) [
  | inl e ↦ rw e (others_same p n S T same)
  | inr e ↦ rw e (ap₂ (λ (ts us : List Descriptors). ts ++ us) (same n (eqb-false n p e)) (others_same p n S T same))
]

pub tables_same : (n : ℕ) (S T : State) → ((q : ℕ) → table_of (S.procs q) ≡ table_of (T.procs q)) → tables_below n S ≡ tables_below n T
unfolding tables_below
tables_same zero S T same = refl
tables_same (suc n) S T same = ap₂ (λ (ts us : List Descriptors). ts ++ us) (same n) (tables_same n S T same)

-- no more than there are numbers: number 0 has no process
pub tables_few : (n : ℕ) (S : State) → S.procs 0 ≡ None → length (tables_below (suc n) S) ≤ n
unfolding tables_below
tables_few zero S none = rw none (omega arith)
tables_few (suc n) S none =
    let rest = tables_few n S none in
    let both = length-append (table_of (S.procs (suc n))) (tables_below (suc n) S) in
    let one = at_most (S.procs (suc n)) in
    omega (arith, rest, both, one)
  where
    at_most : (x : Option Process) → length (table_of x) ≤ 1
    at_most None = omega arith
    at_most (Some q) = by (is_some q.status)
      where
        by : (b : Bool) → length (if b then [] else q.descriptors ∷ []) ≤ 1
        by true = omega arith
        by false = omega arith

pub tables_all : (P : Descriptors → Type 0) (n : ℕ) (S : State) → ((q : ℕ) → All P (table_of (S.procs q))) → All P (tables_below n S)
unfolding tables_below
tables_all P zero S each = All-nil P
tables_all P (suc n) S each = All-append P (table_of (S.procs n)) (tables_below n S) (each n) (tables_all P n S each)

pub tables_contain : (p n : ℕ) (S : State) (table : Descriptors) → p < n → Contains (table_of (S.procs p)) table → Contains (tables_below n S) table
unfolding tables_below
tables_contain p zero S table below there = absurd (omega (arith, below))
tables_contain p (suc n) S table below there = elim (cases_Bool (n == p)) [
  | inl e ↦ Contains-append_left (table_of (S.procs n)) (tables_below n S) table (rw (eqb-true n p e) there)
  | inr e ↦ (let apart : n ≢ p = eqb-false n p e in
      Contains-append_right (table_of (S.procs n)) (tables_below n S) table (tables_contain p n S table (omega (arith, apart)) there))
]
