-- Whether a descriptor of a state names a description, by the descriptors of its processes.
use Rattle.std.proofs.Common.{◌≡◌, ◌≢◌, ℕ, zero, suc, ◌+◌, ◌<◌, ◌≤◌, Bool, true, false, List, [], ◌∷◌, ◌++◌, length, take, Option, Some, None, is_some, if◌then◌else◌, ◌==◌, nat_lt, get_or, refl, sym, ap, ◌∙◌, subst, eq-eqb, eqb-true, arith}
use Rattle.std.proofs.lemmas.Bool.{both_ways, ltb-true, ltb-false, lt-ltb, le-ltb}
use Rattle.std.proofs.lemmas.List.{take_more, take_all}
use Rattle.std.proofs.lemmas.List.Sums.{sum_by_push, sum_by-append}
use Rattle.tx_model.specs.Descriptors.{some_below}
use Rattle.tx_model.specs.State.{Process, State, SetProc, write_one, is_number}
use Rattle.tx_model.specs.Words.{names_below, is_named_below}
use Rattle.tx_desc.specs.Places.{Descriptors}
use Rattle.tx_desc.specs.Counts.{count_in, names_in, table_of, others_below, others_of, HasNamed}
use Rattle.tx_desc.proofs.Counting.{hit}
use Rattle.tx_desc.specs.CountFacts.{names-cons}

either_some : (m n : ℕ) → (if nat_lt 0 m then true else nat_lt 0 n) ≡ nat_lt 0 (m + n)
either_some zero n = let same : n ≡ 0 + n = omega arith in ap (nat_lt 0) same
either_some (suc m) n =
    let some : 0 < suc m = omega arith in
    let more : 0 < suc m + n = omega arith in
    rw (lt-ltb 0 (suc m) some) (sym (lt-ltb 0 (suc m + n) more))

hit_some : (d : ℕ) (x : Option ℕ) → is_number d x ≡ nat_lt 0 (hit d x)
hit_some d x = by (is_number d x)
  where
    by : (b : Bool) → b ≡ nat_lt 0 (if b then 1 else 0)
    by true = refl
    by false = refl

ended_below : (d n : ℕ) (x : Process) → is_some x.status ≡ true → names_below d n (Some x) ≡ false
unfolding some_below
ended_below d zero x ended = refl
ended_below d (suc n) x ended = rw (ended_below d n x ended, ended) refl

runs_below : (d n : ℕ) (x : Process) → is_some x.status ≡ false → n ≤ length x.descriptors → names_below d n (Some x) ≡ nat_lt 0 (count_in d (take n x.descriptors))
unfolding some_below
runs_below d zero x runs inside = refl
runs_below d (suc n) x runs inside =
    let before = runs_below d n x runs (omega arith) in
    let next : n + 1 ≡ suc n = omega arith in
    let more : count_in d (take (suc n) x.descriptors) ≡ count_in d (take n x.descriptors) + hit d (get_or x.descriptors n None)
    = ap (λ (i : ℕ). count_in d (take i x.descriptors)) (sym next)
    ∙ ap (count_in d) (take_more x.descriptors n None (omega arith)) ∙ sum_by_push (hit d) (take n x.descriptors) (get_or x.descriptors n None) in
    rw (before, runs, hit_some d (get_or x.descriptors n None), more)
    (either_some (count_in d (take n x.descriptors)) (hit d (get_or x.descriptors n None)))

named_one : (d : ℕ) (x : Process) → length x.descriptors ≡ 16 → names_below d 16 (Some x) ≡ nat_lt 0 (names_in d (table_of (Some x)))
named_one d x sized = by (is_some x.status) refl
  where
    by : (b : Bool) → is_some x.status ≡ b → names_below d 16 (Some x) ≡ nat_lt 0 (names_in d (if b then [] else x.descriptors ∷ []))
    by true is = ended_below d 16 x is
    by false is =
        let all : take 16 x.descriptors ≡ x.descriptors = take_all 16 x.descriptors (omega arith) in
        let none : names_in d [] ≡ 0 = refl in
        let first = names-cons d x.descriptors [] in
        let same : count_in d x.descriptors ≡ names_in d (x.descriptors ∷ []) = omega arith in
        runs_below d 16 x is (omega arith) ∙ ap (λ (t : Descriptors). nat_lt 0 (count_in d t)) all ∙ ap (nat_lt 0) same

nobody_below : (d n : ℕ) → names_below d n None ≡ false
unfolding some_below
nobody_below d zero = refl
nobody_below d (suc n) = rw (nobody_below d n) refl

named_at : (d : ℕ) (x : Option Process) → ((q : Process) → x ≡ Some q → length q.descriptors ≡ 16) → names_below d 16 x ≡ nat_lt 0 (names_in d (table_of x))
named_at d None sized = nobody_below d 16
named_at d (Some q) sized = named_one d q (sized q refl)

-- how many names process p adds, once its number is below n
abbrev own : ℕ → ℕ → ℕ → ℕ
own p n m = if nat_lt p n then m else 0

own_none : (p n m : ℕ) → n ≤ p → own p n m ≡ 0
own_none p n m above = rw (le-ltb p n above) refl

own_all : (p n m : ℕ) → p < n → own p n m ≡ m
own_all p n m below = rw (lt-ltb p n below) refl

own_same : (p n m : ℕ) → n ≢ p → own p (suc n) m ≡ own p n m
own_same p n m apart = by (nat_lt p n) refl
  where
    by : (b : Bool) → nat_lt p n ≡ b → own p (suc n) m ≡ own p n m
    by true k = let below = ltb-true p n k in own_all p (suc n) m (omega arith) ∙ sym (own_all p n m below)
    by false k = let above = ltb-false p n k in own_none p (suc n) m (omega arith) ∙ sym (own_none p n m above)

module _ (p : ℕ) (q : Process) (S : State) (sized : (n : ℕ) (x : Process) → S.procs n ≡ Some x → length x.descriptors ≡ 16) (full : length q.descriptors ≡ 16) where
  mine : ℕ → ℕ
  mine d = names_in d (table_of (Some q))

  step : (d n : ℕ) (X : Bool) (others : List Descriptors) → X ≡ nat_lt 0 (own p n (mine d) + names_in d others) → (b : Bool) → (n == p) ≡ b →
      (if X then true else names_below d 16 (if b then Some q else S.procs n))
      ≡ nat_lt 0 (own p (suc n) (mine d) + names_in d (if b then others else table_of (S.procs n) ++ others))
  unfolding mine
  step d n X others before true k =
      let same = eqb-true n p k in
      let was : own p n (mine d) ≡ 0 = own_none p n (mine d) (omega arith) in
      let now : own p (suc n) (mine d) ≡ mine d = own_all p (suc n) (mine d) (omega arith) in
      let sum : own p n (mine d) + names_in d others + mine d ≡ own p (suc n) (mine d) + names_in d others = omega arith in
      (λ i. if before i then true else named_one d q full i) ∙ either_some (own p n (mine d) + names_in d others) (mine d) ∙ ap (nat_lt 0) sum
  step d n X others before false k =
      let same = own_same p n (mine d) (λ z. both_ways (n == p) k (eq-eqb n p z)) in
      let both : names_in d (table_of (S.procs n) ++ others) ≡ names_in d (table_of (S.procs n)) + names_in d others
      = sum_by-append (count_in d) (table_of (S.procs n)) others in
      let sum : own p n (mine d) + names_in d others + names_in d (table_of (S.procs n)) ≡ own p (suc n) (mine d) + names_in d (table_of (S.procs n) ++ others)
      = omega arith in
      (λ i. if before i then true else named_at d (S.procs n) (sized n) i)
      ∙ either_some (own p n (mine d) + names_in d others) (names_in d (table_of (S.procs n))) ∙ ap (nat_lt 0) sum

  named_below : (d n : ℕ) →
      is_named_below d n (write_one (SetProc p (Some q)) S) ≡ nat_lt 0 (own p n (mine d) + names_in d (others_below p n S))
  unfolding some_below others_below
  named_below d zero =
      let none : names_in d [] ≡ 0 = refl in
      let start : own p 0 (mine d) ≡ 0 = own_none p 0 (mine d) (omega arith) in
      let sum : 0 ≡ own p 0 (mine d) + names_in d [] = omega arith in
      ap (nat_lt 0) sum
  named_below d (suc n) = step d n _ (others_below p n S) (named_below d n) (n == p) refl

  -- process p aside, the state names what the other processes do
  pub named_rest : p ≤ S.width → HasNamed (write_one (SetProc p (Some q)) S) (table_of (Some q) ++ others_of p S)
  unfolding mine
  named_rest inside d =
      let all : own p (S.width + 1) (mine d) ≡ mine d = own_all p (S.width + 1) (mine d) (omega arith) in
      let both : names_in d (table_of (Some q) ++ others_of p S) ≡ mine d + names_in d (others_of p S) = sum_by-append (count_in d) (table_of (Some q)) (others_of p S) in
      let sum : own p (S.width + 1) (mine d) + names_in d (others_of p S) ≡ names_in d (table_of (Some q) ++ others_of p S) = omega arith in
      named_below d (S.width + 1) ∙ ap (nat_lt 0) sum

-- the process runs
pub named_running : (p : ℕ) (q : Process) (S : State) → ((n : ℕ) (x : Process) → S.procs n ≡ Some x → length x.descriptors ≡ 16) →
    length q.descriptors ≡ 16 → p ≤ S.width → q.status ≡ None → HasNamed (write_one (SetProc p (Some q)) S) (q.descriptors ∷ others_of p S)
named_running p q S sized full inside runs =
    let one : table_of (Some q) ≡ q.descriptors ∷ [] = ap (λ (x : Option ℕ). if is_some x then [] else q.descriptors ∷ []) runs in
    subst (λ (ts : List Descriptors). HasNamed (write_one (SetProc p (Some q)) S) (ts ++ others_of p S)) one (named_rest p q S sized full inside)

-- the process has ended
pub named_ended : (p : ℕ) (q : Process) (S : State) → ((n : ℕ) (x : Process) → S.procs n ≡ Some x → length x.descriptors ≡ 16) →
    length q.descriptors ≡ 16 → p ≤ S.width → is_some q.status ≡ true → HasNamed (write_one (SetProc p (Some q)) S) (others_of p S)
named_ended p q S sized full inside ended =
    let none : table_of (Some q) ≡ [] = ap (λ (b : Bool). if b then [] else q.descriptors ∷ []) ended in
    subst (λ (ts : List Descriptors). HasNamed (write_one (SetProc p (Some q)) S) (ts ++ others_of p S)) none (named_rest p q S sized full inside)
