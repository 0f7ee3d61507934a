-- Each move keeps the rule of the ready queue.
use Rattle.std.proofs.Common.{◌≡◌, ◌≢◌, ℕ, zero, suc, ◌+◌, ◌<◌, ◌≤◌, List, [], ◌∷◌, ◌++◌, set, sym, refl, ap, ◌∙◌, subst, ⊎_elim, arith, sum_by}
use Rattle.std.proofs.lemmas.List.Sums.{sum_by-cons, sum_by-append, sum_by_push}
use Rattle.std.proofs.lemmas.List.Elements.{All-push, All-head, All-tail}
use mathlib.Core.Option.{some, some-ne-none, some-injective}
use lib.ListN.{get_elem?}
use Rattle.crossbeam_queue.specs.Fifo.{Pushes, Pops, Forks, Merges, Learns}
use Rattle.crossbeam_queue.proofs.Lists.{at_set, at_snoc}
use Rattle.tx_ready_queue.specs.declared.rule.Hand.{Hand}
use Rattle.tx_ready_queue.specs.Numbers.{IsNumber}
use Rattle.tx_ready_queue.specs.Hands.{hand, puts, takes, keeps, begins, both, IdleIsEmpty, Balanced, IsWhole, Taken}

-- a sum over the hands after one of them changed
total_set : (f : Hand → ℕ) (hands : List Hand) (pass : ℕ) (v w : Hand) → get_elem? hands pass ≡ some v → sum_by f (set hands pass w) + f v ≡ sum_by f hands + f w
total_set f [] pass v w e = absurd (some-ne-none v (sym e))
total_set f (x ∷ xs) zero v w e =
    let same : f x ≡ f v = ap f (some-injective x v e) in omega (arith, sum_by-cons f x xs, sum_by-cons f w xs)
total_set f (x ∷ xs) (suc pass) v w e = omega (arith, total_set f xs pass v w e, sum_by-cons f x xs, sum_by-cons f x (set xs pass w))

-- its part is in the sum
total_has : (f : Hand → ℕ) (hands : List Hand) (pass : ℕ) (v : Hand) → get_elem? hands pass ≡ some v → f v ≤ sum_by f hands
total_has f [] pass v e = absurd (some-ne-none v (sym e))
total_has f (x ∷ xs) zero v e = let same : f x ≡ f v = ap f (some-injective x v e) in omega (arith, sum_by-cons f x xs)
total_has f (x ∷ xs) (suc pass) v e = omega (arith, total_has f xs pass v e, sum_by-cons f x xs)

-- what is nothing of each hand with no part
abbrev Idles : (Hand → ℕ) → List Hand → Type 0
Idles f hands = (pass : ℕ) (v : Hand) → get_elem? hands pass ≡ some v → v.parts ≡ 0 → f v ≡ 0

none_alone : (f : Hand → ℕ) (hands : List Hand) → Idles f hands → sum_by (λ v. v.parts) hands ≡ 0 → sum_by f hands ≡ 0
none_alone f [] idle none = refl
none_alone f (x ∷ xs) idle none =
    let s : x.parts + sum_by (λ v. v.parts) xs ≡ 0 = sym (sum_by-cons (λ (v : Hand). v.parts) x xs) ∙ none in
    let a : f x ≡ 0 = idle 0 x refl (omega arith) in
    let b : sum_by f xs ≡ 0 = none_alone f xs (λ j u e. idle (suc j) u e) (omega arith) in
    omega (arith, sum_by-cons f x xs)

-- a hand with all parts is all that there is
alone : (f : Hand → ℕ) (hands : List Hand) (pass : ℕ) (v : Hand) → Idles f hands → get_elem? hands pass ≡ some v → sum_by (λ u. u.parts) hands ≡ v.parts → sum_by f hands ≡ f v
alone f [] pass v idle e all = absurd (some-ne-none v (sym e))
alone f (x ∷ xs) zero v idle e all =
    let is : x ≡ v = some-injective x v e in
    let p : x.parts ≡ v.parts = ap (λ (u : Hand). u.parts) is in
    let s : x.parts + sum_by (λ u. u.parts) xs ≡ v.parts = sym (sum_by-cons (λ (u : Hand). u.parts) x xs) ∙ all in
    let b : sum_by f xs ≡ 0 = none_alone f xs (λ j u e'. idle (suc j) u e') (omega arith) in
    let same : f x ≡ f v = ap f is in
    omega (arith, sum_by-cons f x xs)
alone f (x ∷ xs) (suc pass) v idle e all =
    let s : x.parts + sum_by (λ u. u.parts) xs ≡ v.parts = sym (sum_by-cons (λ (u : Hand). u.parts) x xs) ∙ all in
    let has : v.parts ≤ sum_by (λ u. u.parts) xs = total_has (λ (u : Hand). u.parts) xs pass v e in
    let a : f x ≡ 0 = idle 0 x refl (omega arith) in
    let b : sum_by f xs ≡ f v = alone f xs pass v (λ j u e'. idle (suc j) u e') e (omega arith) in
    omega (arith, sum_by-cons f x xs)

-- a change of one hand leaves the others idle
idle_set : (hands : List Hand) (pass : ℕ) (w : Hand) → (w.parts ≡ 0 → (w.put ≡ []) × (w.taken ≡ [])) → IdleIsEmpty hands → IdleIsEmpty (set hands pass w)
idle_set hands pass w mine idle j u e none = ⊎_elim
    (λ (x : (j ≡ pass) × (w ≡ u)). subst (λ (y : Hand). (y.parts ≡ 0 → (y.put ≡ []) × (y.taken ≡ []))) x.1 mine none)
    (λ (x : (j ≢ pass) × (get_elem? hands j ≡ some u)). idle j u x.1 none)
    (at_set hands pass j w u e)

idle_push : (hands : List Hand) (w : Hand) → (w.parts ≡ 0 → (w.put ≡ []) × (w.taken ≡ [])) → IdleIsEmpty hands → IdleIsEmpty (hands ++ w ∷ [])
idle_push hands w mine idle j u e none = ⊎_elim
    (λ (x : get_elem? hands j ≡ some u). idle j u x none)
    (λ (x : w ≡ u). subst (λ (y : Hand). (y.parts ≡ 0 → (y.put ≡ []) × (y.taken ≡ []))) x mine none)
    (at_snoc hands w u j e)

pub gives : (n pass : ℕ) (v : Hand) (x : ℕ) → 0 < v.parts → IsNumber x → Pushes Balanced n pass v x (λ w. w ≡ puts v x)
gives n pass v x some_part number items hands room rule at =
    let w : Hand = puts v x in (
      w,
      record {
        parts = let p = rule.parts in omega (arith, total_set (λ u. u.parts) hands pass v w at);
        evens = λ weight.
            let before = rule.evens weight in
            let s = total_set (λ u. sum_by weight u.put) hands pass v w at in
            let t = total_set (λ u. sum_by weight u.taken) hands pass v w at in
            omega (arith, sum_by_push weight v.put x, sum_by_push weight items x);
        idle = idle_set hands pass w (λ none. absurd (omega arith)) rule.idle;
        numbers = All-push IsNumber items x rule.numbers number;
      },
      refl,
    )

-- what a hand with all parts knows
whole : (items : List ℕ) (hands : List Hand) (pass : ℕ) (v : Hand) → Balanced items hands → get_elem? hands pass ≡ some v → IsWhole v items
whole items hands pass v rule at all weight =
    let sums : sum_by (λ u. u.parts) hands ≡ v.parts = rule.parts ∙ sym all in
    let put : sum_by (λ u. sum_by weight u.put) hands ≡ sum_by weight v.put = alone (λ u. sum_by weight u.put) hands pass v (λ j u e none. ap (sum_by weight) (rule.idle j u e none).0) at sums in
    let taken : sum_by (λ u. sum_by weight u.taken) hands ≡ sum_by weight v.taken = alone (λ u. sum_by weight u.taken) hands pass v (λ j u e none. ap (sum_by weight) (rule.idle j u e none).1) at sums in
    let evens = rule.evens weight in
    omega arith

pub learns : (pass : ℕ) (v : Hand) → Learns Balanced pass v (IsWhole v)
learns pass v items hands rule at = whole items hands pass v rule at

pub gets : (pass : ℕ) (v : Hand) → 0 < v.parts → Pops Balanced pass v (Taken v)
gets pass v some_part x items hands rule at =
    let w : Hand = takes v x in (
      w,
      record {
        parts = let p = rule.parts in omega (arith, total_set (λ u. u.parts) hands pass v w at);
        evens = λ weight.
            let before = rule.evens weight in
            let s = total_set (λ u. sum_by weight u.put) hands pass v w at in
            let t = total_set (λ u. sum_by weight u.taken) hands pass v w at in
            omega (arith, sum_by_push weight v.taken x, sum_by-cons weight x items);
        idle = idle_set hands pass w (λ none. absurd (omega arith)) rule.idle;
        numbers = All-tail IsNumber x items rule.numbers;
      },
      (
        refl,
        All-head IsNumber x items rule.numbers,
        (λ all weight.
            let known = whole (x ∷ items) hands pass v rule at all weight in
            omega (arith, sum_by_push weight v.taken x, sum_by-cons weight x items)),
      ),
    )

pub forks : (pass : ℕ) (v : Hand) → 1 < v.parts → Forks Balanced pass v (keeps v) begins
forks pass v some_parts items hands rule at =
    let l : Hand = keeps v in
    let more : List Hand = set hands pass l in record {
      parts = let p = rule.parts in omega (arith, total_set (λ u. u.parts) hands pass v l at, sum_by_push (λ (u : Hand). u.parts) more begins);
      evens = λ weight.
          let before = rule.evens weight in
          let s = total_set (λ u. sum_by weight u.put) hands pass v l at in
          let t = total_set (λ u. sum_by weight u.taken) hands pass v l at in
          omega (arith, sum_by_push (λ (u : Hand). sum_by weight u.put) more begins, sum_by_push (λ (u : Hand). sum_by weight u.taken) more begins);
      idle = idle_push more begins (λ none. absurd (omega arith)) (idle_set hands pass l (λ none. absurd (omega arith)) rule.idle);
      numbers = rule.numbers;
    }

pub merges : (pass : ℕ) (v : Hand) (other : ℕ) (u : Hand) → 0 < v.parts → Merges Balanced pass v other u (both v u) (hand 0 [] [])
merges pass v other u some_part items hands rule at apart at_other =
    let b : Hand = both v u in
    let spent : Hand = hand 0 [] [] in
    let more : List Hand = set hands pass b in record {
      parts = let p = rule.parts in omega (arith, total_set (λ y. y.parts) hands pass v b at, total_set (λ y. y.parts) more other u spent at_other);
      evens = λ weight.
          let before = rule.evens weight in
          let s = total_set (λ y. sum_by weight y.put) hands pass v b at in
          let t = total_set (λ y. sum_by weight y.taken) hands pass v b at in
          let s' = total_set (λ y. sum_by weight y.put) more other u spent at_other in
          let t' = total_set (λ y. sum_by weight y.taken) more other u spent at_other in
          omega (arith, sum_by-append weight v.put u.put, sum_by-append weight v.taken u.taken);
      idle = idle_set more other spent (λ none. (refl, refl)) (idle_set hands pass b (λ none. absurd (omega arith)) rule.idle);
      numbers = rule.numbers;
    }
