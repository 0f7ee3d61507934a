-- Objects, their places, and the sets that have their bits.
use Rattle.std.proofs.Common.{◌≡◌, ℕ, zero, suc, ◌+◌, ◌-◌, ◌*◌, ◌/◌, ◌%◌, ◌^◌, ◌<◌, ◌≤◌, Bool, true, false, not, ◌&&◌, ◌||◌, List, length, if◌then◌else◌, ◌==◌, min, max, bit_and, bit_or, w32, arith, refl, ap, ap₂, sym, ◌∙◌, subst, inl, inr, get_or, eqb-true, eq-eqb, add-one, replicate, slice_set, nat_lt, Option, Some, None, IfNone, IsTrue, ◌↔◌}
use Rattle.std.specs.List.{sum}
use Rattle.std.proofs.lemmas.Bool.{cases_Bool, cases_lt, both_ways, ltb-true, lt-ltb, le-ltb}
use Rattle.std.proofs.lemmas.List.{get_or-replicate, get_or-set_same, get_or-set_other, get_or_past, length-replicate}
use Rattle.std.proofs.lemmas.Bool.Decides.{nat_tests}
use Rattle.std.proofs.Math.Nat.{eq-zero-or-pos}
use Rattle.std.proofs.lemmas.Nat.{le_or_l, le_or_r}
use Rattle.std.specs.Int.Bits.{or_zero_l}
use Rattle.std.proofs.lemmas.Nat.Bits.{bit_at_and, bit_at_or, bit_at_not, bit_at-lt, bit_at-trailing_zeros, bit_at-zero}
use Rattle.std.specs.Int.{bit_at, bit_not, trailing_zeros}
use Rattle.tx_model.specs.ObjectFacts.{same_is}
use Rattle.tx_model.specs.State.{Object, Proc, Desc, Pipe, Held, same_object}
use Rattle.tx_reserve.specs.Objects.{has_place, is_in, is_small, object_at, place_of, TakesOut}
use Rattle.tx_reserve.specs.declared.objects.Objects.{Objects}

below_is_other : (a b : ℕ) → a < b → false ≡ (a == b)
below_is_other a b lt = grind (arith, nat_tests)

above_is_other : (a b : ℕ) → b < a → false ≡ (a == b)
above_is_other a b lt = grind (arith, nat_tests)

same_shifted : (k n m : ℕ) → (n == m) ≡ (k + n == k + m)
same_shifted k n m = grind (arith, nat_tests)

same_before : (n m : ℕ) → (suc n == suc m) ≡ (suc n - 1 == suc m - 1)
same_before n m = grind (arith, nat_tests)

-- an object of a number that there may be has a place of its own
pub same_place : (a b : Object) → is_small a ≡ true → is_small b ≡ true → same_object a b ≡ (place_of a == place_of b)
same_place (Proc zero) b s t = absurd (both_ways false refl s)
same_place (Proc (suc n)) (Proc zero) s t = absurd (both_ways false refl t)
same_place (Proc (suc n)) (Proc (suc m)) s t = same_before n m
same_place (Proc (suc n)) (Desc m) s t = let lt = ltb-true n 256 s in below_is_other (suc n - 1) (256 + m) (omega arith)
same_place (Proc (suc n)) (Pipe m) s t = let lt = ltb-true n 256 s in below_is_other (suc n - 1) (320 + m) (omega arith)
same_place (Desc n) (Proc zero) s t = absurd (both_ways false refl t)
same_place (Desc n) (Proc (suc m)) s t = let lt = ltb-true m 256 t in above_is_other (256 + n) (suc m - 1) (omega arith)
same_place (Desc n) (Desc m) s t = same_shifted 256 n m
same_place (Desc n) (Pipe m) s t = let lt = ltb-true n 64 s in below_is_other (256 + n) (320 + m) (omega arith)
same_place (Pipe n) (Proc zero) s t = absurd (both_ways false refl t)
same_place (Pipe n) (Proc (suc m)) s t = let lt = ltb-true m 256 t in above_is_other (320 + n) (suc m - 1) (omega arith)
same_place (Pipe n) (Desc m) s t = let lt = ltb-true m 64 t in above_is_other (320 + n) (256 + m) (omega arith)
same_place (Pipe n) (Pipe m) s t = same_shifted 320 n m
same_place (Proc (suc n)) (Held m) s t = absurd (both_ways false refl t)
same_place (Desc n) (Held m) s t = absurd (both_ways false refl t)
same_place (Pipe n) (Held m) s t = absurd (both_ways false refl t)
same_place (Held n) b s t = absurd (both_ways false refl s)

-- and it is below 352
pub place_below : (o : Object) → is_small o ≡ true → place_of o < 352
place_below (Proc zero) s = absurd (both_ways false refl s)
place_below (Proc (suc n)) s = let lt = ltb-true n 256 s in omega arith
place_below (Desc n) s = let lt = ltb-true n 64 s in omega arith
place_below (Pipe n) s = let lt = ltb-true n 32 s in omega arith
place_below (Held n) s = absurd (both_ways false refl s)

pub both_same : {A : Type 0} (t : Bool) (b : A) → (if t then b else b) ≡ b
both_same true b = refl
both_same false b = refl

-- whether an object is in the set says the bit of its place
pub in_by_place : (objects : Objects) (o : Object) (place : ℕ) → is_small o ≡ true → place ≡ place_of o → has_place objects.words place ≡ is_in objects o
unfolding is_in
in_by_place objects o place small at = rw small (ap (λ (q : ℕ). has_place objects.words q) at)

-- what has no such number is in no set
pub not_in : (objects : Objects) (o : Object) → is_small o ≡ false → false ≡ is_in objects o
unfolding is_in
not_in objects o large = rw large refl

-- a bit that was edited is that of one object
pub edited_in : (before after : Objects) (x o : Object) (place : ℕ) (b : Bool) → is_small x ≡ true → place ≡ place_of x
    → ((q : ℕ) → has_place after.words q ≡ (if q == place then b else has_place before.words q))
    → is_in after o ≡ (if same_object o x then (if is_small o then b else false) else is_in before o)
unfolding is_in
edited_in before after x o place b small is at = elim (cases_Bool (is_small o)) [
  | inl e ↦ rw e (at (place_of o) ∙ ap (λ (k : ℕ). if place_of o == k then b else has_place before.words (place_of o)) is
      ∙ ap (λ (t : Bool). if t then b else has_place before.words (place_of o)) (sym (same_place o x e small)))
  | inr e ↦ rw e (sym (both_same (same_object o x) false))
]

pub own_test : (t : Bool) → (if t then true else false) ≡ t
own_test true = refl
own_test false = refl

-- with its bit set, the object is in the set
pub put_in : (before after : Objects) (x o : Object) (place : ℕ) → is_small x ≡ true → place ≡ place_of x
    → ((q : ℕ) → has_place after.words q ≡ (if q == place then true else has_place before.words q))
    → is_in after o ≡ (if same_object o x then is_small o else is_in before o)
put_in before after x o place small is at =
    edited_in before after x o place true small is at ∙ ap (λ (t : Bool). if same_object o x then t else is_in before o) (own_test (is_small o))

-- with its bit cleared, it is not
pub taken_out : (before after : Objects) (x o : Object) (place : ℕ) → is_small x ≡ true → place ≡ place_of x
    → ((q : ℕ) → has_place after.words q ≡ (if q == place then false else has_place before.words q))
    → is_in after o ≡ (if same_object o x then false else is_in before o)
taken_out before after x o place small is at =
    edited_in before after x o place false small is at ∙ ap (λ (t : Bool). if same_object o x then t else is_in before o) (both_same (is_small o) false)

-- a number that there may not be leaves the set
pub none_put : (before : Objects) (x o : Object) → is_small x ≡ false → is_in before o ≡ (if same_object o x then is_small o else is_in before o)
none_put before x o large = elim (cases_Bool (same_object o x)) [
  | inl e ↦ rw e (sym (not_in before o (ap is_small (same_is o x e) ∙ large)) ∙ sym (ap is_small (same_is o x e) ∙ large))
  | inr e ↦ rw e refl
]

pub no_bit : (i : ℕ) → (bit_at 0 i == 1) ≡ false
no_bit i = ap (λ (b : ℕ). b == 1) (bit_at-zero i)

-- where each word is 0, no bit is set
pub none_in : (objects : Objects) (o : Object) → ((k : ℕ) → get_or objects.words k 0 ≡ 0) → is_in objects o ≡ false
unfolding is_in has_place
none_in objects o none =
    ap (λ (w : ℕ). if is_small o then bit_at w (place_of o % 32) == 1 else false) (none (place_of o / 32))
    ∙ ap (λ (t : Bool). if is_small o then t else false) (no_bit (place_of o % 32)) ∙ both_same (is_small o) false

or_test : (a b : ℕ) → a < 2 → b < 2 → (max a b == 1) ≡ ((a == 1) || (b == 1))
or_test zero zero s t = refl
or_test zero (suc zero) s t = refl
or_test zero (suc (suc b)) s t = absurd (omega arith)
or_test (suc zero) zero s t = refl
or_test (suc zero) (suc zero) s t = refl
or_test (suc zero) (suc (suc b)) s t = absurd (omega arith)
or_test (suc (suc a)) b s t = absurd (omega arith)

less_test : (a b : ℕ) → a < 2 → b < 2 → (min a (1 - b) == 1) ≡ ((a == 1) && not (b == 1))
less_test zero zero s t = refl
less_test zero (suc zero) s t = refl
less_test zero (suc (suc b)) s t = absurd (omega arith)
less_test (suc zero) zero s t = refl
less_test (suc zero) (suc zero) s t = refl
less_test (suc zero) (suc (suc b)) s t = absurd (omega arith)
less_test (suc (suc a)) b s t = absurd (omega arith)

-- words of which each is that of both sets
pub joined_in : (a b both : Objects) (o : Object) → ((k : ℕ) → k < 11 → get_or both.words k 0 ≡ bit_or (get_or a.words k 0) (get_or b.words k 0))
    → is_in both o ≡ (is_in a o || is_in b o)
unfolding is_in has_place
joined_in a b both o each = elim (cases_Bool (is_small o)) [
  | inl e ↦
      let below = place_below o e in
      let x = get_or a.words (place_of o / 32) 0 in
      let y = get_or b.words (place_of o / 32) 0 in
      let i = place_of o % 32 in
      rw e (ap (λ (w : ℕ). bit_at w i == 1) (each (place_of o / 32) (omega arith)) ∙ ap (λ (n : ℕ). n == 1) (bit_at_or x y i) ∙ or_test (bit_at x i) (bit_at y i) (bit_at-lt x i) (bit_at-lt y i))
  | inr e ↦ rw e refl
]

-- words of which each is that of the one set without the other
pub less_in : (a b rest : Objects) (o : Object) → ((k : ℕ) → k < 11 → get_or b.words k 0 < 2 ^ 32)
    → ((k : ℕ) → k < 11 → get_or rest.words k 0 ≡ bit_and (get_or a.words k 0) (bit_not w32 (get_or b.words k 0)))
    → is_in rest o ≡ (is_in a o && not (is_in b o))
unfolding is_in has_place
less_in a b rest o fits each = elim (cases_Bool (is_small o)) [
  | inl e ↦
      let below = place_below o e in
      let x = get_or a.words (place_of o / 32) 0 in
      let y = get_or b.words (place_of o / 32) 0 in
      let i = place_of o % 32 in
      rw e (ap (λ (w : ℕ). bit_at w i == 1) (each (place_of o / 32) (omega arith)) ∙ ap (λ (n : ℕ). n == 1) (bit_at_and x (bit_not w32 y) i)
      ∙ ap (λ (n : ℕ). min (bit_at x i) n == 1) (bit_at_not w32 y i (fits (place_of o / 32) (omega arith)) (omega arith))
      ∙ less_test (bit_at x i) (bit_at y i) (bit_at-lt x i) (bit_at-lt y i))
  | inr e ↦ rw e refl
]

-- words that are all 0
pub no_words : (n k : ℕ) → ◌≡◌ {A = ℕ} (get_or {A = ℕ} (replicate {A = ℕ} n 0) k 0) 0
no_words n k = elim (cases_lt k n) [
  | inl lt ↦ get_or-replicate n k 0 0 lt
  | inr le ↦ let none : List ℕ = replicate n 0 in get_or_past none k 0 (rw (length-replicate {A = ℕ} n 0) le)
]

-- the lowest bit of a word that is not 0 is set
pub lowest_is_set : (words : List ℕ) (i : ℕ) → 0 < get_or words i 0 → get_or words i 0 < 2 ^ 32 → has_place words (32 * i + trailing_zeros w32 (get_or words i 0)) ≡ true
unfolding has_place
lowest_is_set words i positive fits =
    let k = trailing_zeros w32 (get_or words i 0) in
    let found = bit_at-trailing_zeros w32 (get_or words i 0) positive fits in
    let within : k < 32 = found.0 in
    let word : (32 * i + k) / 32 ≡ i = omega arith in
    let bit : (32 * i + k) % 32 ≡ k = omega arith in
    ap₂ (λ (n m : ℕ). bit_at (get_or words n 0) m == 1) word bit ∙ ap (λ (b : ℕ). b == 1) found.1

-- and the places of a word that is 0 are clear
pub no_places : (words : List ℕ) (i : ℕ) → get_or words i 0 ≡ 0 → ((q : ℕ) → q < 32 * i → has_place words q ≡ false) → (q : ℕ) → q < 32 * (i + 1) → has_place words q ≡ false
unfolding has_place
no_places words i zeros below q lt = elim (cases_lt q (32 * i)) [
  | inl before ↦ below q before
  | inr here ↦ let word : q / 32 ≡ i = omega arith in
      ap (λ (n : ℕ). bit_at (get_or words n 0) (q % 32) == 1) word ∙ ap (λ (w : ℕ). bit_at w (q % 32) == 1) zeros ∙ no_bit (q % 32)
]

-- where no place is set, no object is in the set
pub nothing_in : (objects : Objects) (o : Object) → ((q : ℕ) → q < 352 → has_place objects.words q ≡ false) → is_in objects o ≡ false
unfolding is_in
nothing_in objects o none = elim (cases_Bool (is_small o)) [
  | inl e ↦ rw e (none (place_of o) (place_below o e))
  | inr e ↦ rw e refl
]

-- where no place of a process is set, no process is in the set
pub no_proc_in : (objects : Objects) (n : ℕ) → ((q : ℕ) → q < 256 → has_place objects.words q ≡ false) → is_in objects (Proc n) ≡ false
unfolding is_in
no_proc_in objects zero none = refl
no_proc_in objects (suc n) none = elim (cases_Bool (nat_lt n 256)) [
  | inl e ↦ let lt = ltb-true n 256 e in rw e (none (suc n - 1) (omega arith))
  | inr e ↦ rw e refl
]

-- an object whose bit was set is taken out as the bit is cleared
pub takes_out : (before after : Objects) (o : Object) (place : ℕ) → is_small o ≡ true → place ≡ place_of o → has_place before.words place ≡ true
    → ((q : ℕ) → has_place after.words q ≡ (if q == place then false else has_place before.words q)) → sum after.words < sum before.words → TakesOut before after o
takes_out before after o place small is set at falls = record {
  was_in = sym (in_by_place before o place small is) ∙ set;
  left = λ other. taken_out before after o other place small is at;
  falls = falls;
}

pub if_none : {A : Type 0} (x : Option A) (P : Type 0) → P → IfNone x P
if_none None P p = p
if_none (Some a) P p = tt

-- the process of a place below 256 is one that there may be
pub small_proc : (place : ℕ) → place < 256 → is_small (Proc (place + 1)) ≡ true
small_proc place lt = rw (add-one place) (lt-ltb place 256 lt)

-- words of which one more is made
pub worked_on : (made : ℕ → ℕ) (first words : List ℕ) (i w : ℕ) → i < length words → w ≡ made i → ((k : ℕ) → k < i → get_or words k 0 ≡ made k)
    → ((k : ℕ) → i ≤ k → get_or words k 0 ≡ get_or first k 0)
    → ((k : ℕ) → k < i + 1 → get_or (slice_set words i w) k 0 ≡ made k) × ((k : ℕ) → i + 1 ≤ k → get_or (slice_set words i w) k 0 ≡ get_or first k 0)
worked_on made first words i w within is below above = (
  λ k lt. elim (cases_lt k i) [
    | inl before ↦ get_or-set_other words i k w 0 (λ e. absurd (omega arith)) ∙ below k before
    | inr here ↦ let e : k ≡ i = omega arith in ap (λ (n : ℕ). get_or (slice_set words i w) n 0) e ∙ get_or-set_same words i w 0 within ∙ is ∙ ap made (sym e)
  ],
  λ k le. get_or-set_other words i k w 0 (λ e. absurd (omega arith)) ∙ above k (omega arith),
)

pub one_more : (words : List ℕ) (i : ℕ) → get_or words i 0 < 2 ^ 32 → ((k : ℕ) → k < i → get_or words k 0 < 2 ^ 32) → (k : ℕ) → k < i + 1 → get_or words k 0 < 2 ^ 32
one_more words i here below k lt = elim (cases_lt k i) [
  | inl before ↦ below k before
  | inr after ↦ let e : k ≡ i = omega arith in rw e here
]

-- each place below 352 is that of its object
pub object_at_place : (place : ℕ) → place < 352 → (is_small (object_at place) ≡ true) × (place_of (object_at place) ≡ place)
unfolding object_at
object_at_place place lt = elim (cases_lt place 256) [
  | inl proc ↦ rw (lt-ltb place 256 proc) (small_proc place proc, omega arith)
  | inr above ↦ rw (le-ltb place 256 above) (elim (cases_lt place 320) [
    | inl desc ↦ rw (lt-ltb place 320 desc) (lt-ltb (place - 256) 64 (omega arith), omega arith)
    | inr pipe ↦ rw (le-ltb place 320 pipe) (lt-ltb (place - 320) 32 (omega arith), omega arith)
  ])
]

-- and an object that there may be is that of its place
pub object_at_is : (o : Object) (place : ℕ) → is_small o ≡ true → place ≡ place_of o → object_at place ≡ o
object_at_is o place small is =
    let at = object_at_place place (subst (λ (p : ℕ). p < 352) (sym is) (place_below o small)) in
    same_is (object_at place) o (same_place (object_at place) o at.0 small ∙ eq-eqb (place_of (object_at place)) (place_of o) (at.1 ∙ is))

-- whether a bit of the first so many words is set, told by a number that is 0 where none is
pub record Tells (words : List ℕ) (count all : ℕ) : Type 0 where
  pub none : all ≡ 0 → (q : ℕ) → q < 32 * count → has_place words q ≡ false
  pub some : 0 < all → (place : ℕ) × ((place < 352) × (has_place words place ≡ true))

-- by one word more
pub tells_more : (words : List ℕ) (i all : ℕ) → i < 11 → get_or words i 0 < 2 ^ 32 → Tells words i all → Tells words (i + 1) (bit_or all (get_or words i 0))
tells_more words i all few fits told = record {
  none = λ zeros. no_places words i (no_more (get_or words i 0) (le_or_r all (get_or words i 0)) zeros) (told.none (no_more all (le_or_l all (get_or words i 0)) zeros));
  some = λ positive. elim (eq-zero-or-pos all) [
    | inl none ↦ here (subst (λ (n : ℕ). 0 < n) (or_zero_l (get_or words i 0)) (subst (λ (n : ℕ). 0 < bit_or n (get_or words i 0)) none positive))
    | inr before ↦ told.some before
  ];
}
  where
    no_more : (a : ℕ) → a ≤ bit_or all (get_or words i 0) → bit_or all (get_or words i 0) ≡ 0 → a ≡ 0
    no_more a most zeros = omega (arith, most, zeros)

    here : 0 < get_or words i 0 → (place : ℕ) × ((place < 352) × (has_place words place ≡ true))
    here positive =
        let within : trailing_zeros w32 (get_or words i 0) < 32 = (bit_at-trailing_zeros w32 (get_or words i 0) positive fits).0 in
        (32 * i + trailing_zeros w32 (get_or words i 0), (omega arith, lowest_is_set words i positive fits))

-- where no bit of the 11 words is set, the set is empty
pub empty_test : (objects : Objects) (count all : ℕ) → count ≡ 11 → Tells objects.words count all → IsTrue (all == 0) ↔ ((o : Object) → is_in objects o ≡ false)
empty_test objects count all most told = (
  λ t o. nothing_in objects o (λ q lt. told.none (eqb-true all 0 t) q (omega arith)),
  λ none. elim (eq-zero-or-pos all) [
    | inl zeros ↦ eq-eqb all 0 zeros
    | inr positive ↦
        let place = told.some positive in
        let o = object_at place.0 in
        let found = object_at_place place.0 place.1.0 in
        absurd (both_ways (is_in objects o) (none o) (sym (in_by_place objects o place.0 found.0 (sym found.1)) ∙ place.1.1))
  ],
)

-- what is in a set has a number that there may be
pub in_small : (objects : Objects) (o : Object) → is_in objects o ≡ true → is_small o ≡ true
in_small objects o there = elim (cases_Bool (is_small o)) [
  | inl e ↦ e
  | inr e ↦ absurd (both_ways (is_in objects o) (sym (not_in objects o e)) there)
]
