-- The counts of a list: after a change of both, and added up.
use Rattle.std.proofs.Common.{◌≡◌, ℕ, zero, suc, ◌+◌, ◌<◌, ◌≤◌, cond, List, [], ◌∷◌, ◌++◌, set, length, replicate, get_or, slice_index, sym, refl, ap, ◌∙◌, ◌⊎◌, inl, inr, arith, ltb, ◌==◌, take, sum, sum_by, All, add-one}
use Rattle.std.specs.List.{range_with_len}
use Rattle.std.proofs.lemmas.List.{get_or-set_same, get_or-set_other, get_or-replicate, length-replicate, length-set, take_all}
use Rattle.std.proofs.lemmas.List.Sums.{sum_by-cons, sum_by-append, sum_by_more, sum_by_push}
use Rattle.std.proofs.lemmas.List.Elements.{All-push, All-nil, All-head, All-tail, All-append}
use Rattle.std.proofs.lemmas.Bool.{cases_eq}
use Rattle.std.proofs.lemmas.Grind.{common_steps}
use Rattle.tx_ready_queue.specs.declared.rule.Hand.{Hand}
use Rattle.tx_ready_queue.specs.declared.tally.Tally.{Tally}
use Rattle.tx_ready_queue.specs.Stations.{HasDrained, IsTally}
use Rattle.tx_ready_queue.specs.Numbers.{IsNumber, times, HasCounted}

-- nothing is counted
pub counts_none : (n : ℕ) → n ≡ 256 → HasCounted (replicate n 0) []
counts_none n e = record {
  places = length-replicate n 0 ∙ e;
  counted = λ place within. get_or-replicate n place 0 0 (omega arith);
  numbers = All-nil IsNumber;
}

-- 1 where the two are the same number, 0 where not
abbrev pub one_if : ℕ → ℕ → ℕ
one_if a b = cond (a == b) 1 0

pub times_push : (p : ℕ) (list : List ℕ) (number : ℕ) → times p (list ++ number ∷ []) ≡ times p list + one_if number p
times_push p list number = sum_by_push (λ x. one_if x p) list number

pub times_append : (p : ℕ) (one other : List ℕ) → times p (one ++ other) ≡ times p one + times p other
times_append p one other = sum_by-append (λ x. one_if x p) one other

pub is_same : (a b : ℕ) → a ≡ b → one_if a b ≡ 1
is_same a b e = grind (arith, common_steps)

pub is_other : (a b : ℕ) → (a ≡ b → ⊥) → one_if a b ≡ 0
is_other a b n = grind (arith, common_steps)

pub times_more : (p : ℕ) (list : List ℕ) → times p (list ++ p ∷ []) ≡ times p list + 1
times_more p list = omega (arith, times_push p list p, is_same p p refl)

-- the counts after one more number, at that number's place and at the others
count_at : (counts list : List ℕ) (place number other : ℕ) → place + 1 ≡ number → HasCounted counts list → other < 256 → (other ≡ place) ⊎ (other ≡ place → ⊥)
    → slice_index (set counts place (get_or counts place 0 + 1)) other ≡ times (other + 1) (list ++ number ∷ [])
count_at counts list place number other at has within (inl same) =
    let was = has.counted other within in
    let places = has.places in
    let now : get_or (set counts place (get_or counts place 0 + 1)) other 0 ≡ get_or counts place 0 + 1 = rw same (get_or-set_same counts place _ 0 (omega arith)) in
    let there : get_or counts other 0 ≡ get_or counts place 0 = ap (λ i. get_or counts i 0) same in
    omega (arith, times_push (other + 1) list number, is_same number (other + 1) (omega arith))
count_at counts list place number other at has within (inr not_same) =
    let was = has.counted other within in
    let kept = get_or-set_other counts place other (get_or counts place 0 + 1) 0 not_same in
    omega (arith, times_push (other + 1) list number, is_other number (other + 1) (λ e. not_same (omega arith)))

pub counts_one : (counts list : List ℕ) (place number : ℕ) → place + 1 ≡ number → IsNumber number → HasCounted counts list → HasCounted (set counts place (get_or counts place 0 + 1)) (list ++ number ∷ [])
counts_one counts list place number at is has = record {
  places = length-set counts _ _ ∙ has.places;
  counted = λ other within. count_at counts list place number other at has within (cases_eq other place);
  numbers = All-push IsNumber list number has.numbers is;
}

-- the counts of two lists, added up
pub counts_both : (mine theirs sums one other : List ℕ) → HasCounted mine one → HasCounted theirs other → length sums ≡ 256 → ((place : ℕ) → place < 256 → slice_index sums place ≡ slice_index mine place + slice_index theirs place) → HasCounted sums (one ++ other)
counts_both mine theirs sums one other has has' long adds = record {
  places = long;
  counted = λ place within.
      let a = has.counted place within in
      let b = has'.counted place within in
      let s = adds place within in
      omega (arith, times_append (place + 1) one other);
  numbers = All-append IsNumber one other has.numbers has'.numbers;
}

-- the range with one number more
pub range_more : (a n j : ℕ) → a + n ≡ j → range_with_len a (n + 1) ≡ range_with_len a n ++ j ∷ []
range_more a zero j e = let is : a ≡ j = omega arith in ap (λ x. x ∷ []) is
range_more a (suc n) j e = let shorter : range_with_len (a + 1) (n + 1) ≡ range_with_len (a + 1) n ++ j ∷ [] = range_more (a + 1) n j (omega arith) in rw (add-one (suc n)) (ap (λ (l : List ℕ). a ∷ l) (rw (add-one n) at shorter))

-- 1 where a number is at most n
abbrev upto : ℕ → ℕ → ℕ
upto n x = cond (ltb x (n + 1)) 1 0

upto_step : (n x : ℕ) → upto (n + 1) x ≡ upto n x + one_if x (n + 1)
upto_step n x = grind (arith, common_steps)

upto_more : (n : ℕ) (list : List ℕ) → sum_by (upto (n + 1)) list ≡ sum_by (upto n) list + times (n + 1) list
upto_more n [] = refl
upto_more n (x ∷ xs) = omega (arith, upto_more n xs, upto_step n x, sum_by-cons (upto (n + 1)) x xs, sum_by-cons (upto n) x xs, sum_by-cons (λ y. one_if y (n + 1)) x xs)

upto_none : (x : ℕ) → 1 ≤ x → upto 0 x ≡ 0
upto_none x h = grind (arith, common_steps)

upto_all : (x : ℕ) → x ≤ 256 → upto 256 x ≡ 1
upto_all x h = grind (arith, common_steps)

none_below : (list : List ℕ) → All IsNumber list → sum_by (upto 0) list ≡ 0
none_below [] numbers = refl
none_below (x ∷ xs) numbers = omega (arith, sum_by-cons (upto 0) x xs, upto_none x (All-head IsNumber x xs numbers).0, none_below xs (All-tail IsNumber x xs numbers))

all_within : (list : List ℕ) → All IsNumber list → sum_by (upto 256) list ≡ length list
all_within [] numbers = refl
all_within (x ∷ xs) numbers = omega (arith, sum_by-cons (upto 256) x xs, upto_all x (All-head IsNumber x xs numbers).1, all_within xs (All-tail IsNumber x xs numbers))

sum_upto : (counts list : List ℕ) → HasCounted counts list → (n : ℕ) → n ≤ 256 → sum (take n counts) ≡ sum_by (upto n) list
sum_upto counts list has zero within = sym (none_below list has.numbers)
sum_upto counts list has (suc n) within =
    let places = has.places in
    let here = has.counted n (omega arith) in
    let before : sum (take n counts) ≡ sum_by (upto n) list = sum_upto counts list has n (omega arith) in
    let more : sum (take (n + 1) counts) ≡ sum (take n counts) + get_or counts n 0 = sum_by_more (λ x. x) counts n 0 (omega arith) in
    let all : sum (take (n + 1) counts) ≡ sum_by (upto (n + 1)) list = omega (arith, upto_more n list) in
    rw (add-one n) at all

-- the counts added up are the length
pub sum_counts : (counts list : List ℕ) → HasCounted counts list → sum counts ≡ length list
sum_counts counts list has =
    let long : length counts ≤ 256 = let places = has.places in omega arith in
    let all : take 256 counts ≡ counts = take_all 256 counts long in
    sym (ap sum all) ∙ sum_upto counts list has 256 (omega arith) ∙ all_within list has.numbers

-- nothing is in a list of no length
pub nothing_in : (weight : ℕ → ℕ) (list : List ℕ) → length list ≡ 0 → sum_by weight list ≡ 0
nothing_in weight [] none = refl
nothing_in weight (x ∷ xs) none = absurd (omega arith)

-- each number weighs one
weighs_one : (list : List ℕ) → sum_by (λ x. 1) list ≡ length list
weighs_one [] = refl
weighs_one (x ∷ xs) = omega (arith, sum_by-cons (λ (y : ℕ). 1) x xs, weighs_one xs)

-- what a hand with all parts has drained makes its tally
pub tallies : (held : Hand) (tally : Tally) → HasCounted tally.pushed held.put → HasCounted tally.popped held.taken → HasDrained held tally.left → IsTally held tally
tallies held tally pushes pops drains = record {
  pushes = pushes;
  pops = pops;
  places = drains.counted.places;
  adds_up = λ place within.
      let a = pushes.counted place within in
      let b = pops.counted place within in
      let d = drains.counted.counted place within in
      let even = drains.evens (λ x. one_if x (place + 1)) in
      omega arith;
  left = λ place within.
      let d = drains.counted.counted place within in
      let even = drains.evens (λ x. one_if x (place + 1)) in
      omega arith;
  all_pushes = sum_counts tally.pushed held.put pushes;
  all_pops = sum_counts tally.popped held.taken pops;
  all_left =
      let even = drains.evens (λ x. 1) in
      omega (arith, weighs_one held.put, weighs_one held.taken, weighs_one drains.drained, sum_counts tally.left drains.drained drains.counted);
}
