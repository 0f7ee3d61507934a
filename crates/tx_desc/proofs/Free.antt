-- Free descriptors.
use Rattle.std.proofs.Common.{◌≡◌, ℕ, zero, suc, ◌+◌, ◌<◌, ◌⊎◌, inl, inr, Bool, true, false, List, [], ◌∷◌, length, map, Option, Some, None, is_none, position, get_or, refl, sym, ap, ◌∙◌, subst, arith, ℤ, pos, negsuc, nat_lt, if◌then◌else◌}
use Rattle.std.proofs.lemmas.Bool.{ltb-true}
use Rattle.tx_model.specs.Numbers.{below}
use Rattle.std.proofs.lemmas.Iterator.Adapters.{position_from-zero}
use Rattle.std.proofs.lemmas.List.{map-set}
use Rattle.std.proofs.Math.ListN.{set}
use Rattle.std.specs.List.{position_from}
use Rattle.tx_base.specs.declared.names.DescNo.{DescNo}
use Rattle.tx_model.specs.Descriptors.{first_free, descriptor}
use Rattle.tx_model.specs.FreeNumbers.{with_second}
use Rattle.tx_desc.specs.Places.{Descriptors, number_in, free_beside, two_free}

vacant_from : (n : ℕ) (places : List (Option DescNo)) → position_from (λ (x : Option DescNo). is_none x) n places ≡ first_free n (map number_in places)
unfolding first_free
vacant_from n [] = refl
vacant_from n (None ∷ rest) = refl
vacant_from n (Some d ∷ rest) = vacant_from (n + 1) rest

pub first_vacant : (places : List (Option DescNo)) (table : Descriptors) → map number_in places ≡ table →
    position (λ (x : Option DescNo). is_none x) places ≡ first_free 0 table
first_vacant places table shown =
    position_from-zero (λ (x : Option DescNo). is_none x) places ∙ vacant_from 0 places ∙ ap (first_free 0) shown

pub shown_set : (places : List (Option DescNo)) (table : Descriptors) (f : ℕ) (x y : Option DescNo) → map number_in places ≡ table → x ≡ y →
    map number_in (set places f x) ≡ set table f (number_in y)
shown_set places table f x y shown same = map-set number_in places f x ∙ (λ i. set (shown i) f (number_in (same i)))

-- a free descriptor is one of the list that names nothing
free_from : (n : ℕ) (t : Descriptors) (f : ℕ) → first_free n t ≡ Some f → (k : ℕ) × (f ≡ n + k) × (k < length t) × (get_or t k None ≡ None)
unfolding first_free
free_from n [] f h = let never : ⊥ = cc in absurd never
free_from n (None ∷ rest) f h = let here : n ≡ f = cc in (0, omega arith, omega arith, refl)
free_from n (Some d ∷ rest) f h = let r = free_from (n + 1) rest f h in (suc r.0, omega arith, omega arith, r.3)

pub free_inside : (t : Descriptors) (f : ℕ) → first_free 0 t ≡ Some f → f < length t
free_inside t f h = let r = free_from 0 t f h in omega arith

pub free_none : (t : Descriptors) (f : ℕ) → first_free 0 t ≡ Some f → get_or t f None ≡ None
free_none t f h = let r = free_from 0 t f h in let same : r.0 ≡ f = omega arith in subst (λ (k : ℕ). get_or t k None ≡ None) same r.3

-- which description a taken descriptor names does not matter
free_any : (n f d e : ℕ) (t : Descriptors) → first_free n (set t f (Some d)) ≡ first_free n (set t f (Some e))
unfolding first_free
free_any n f d e [] = refl
free_any n zero d e (x ∷ t) = refl
free_any n (suc f) d e (None ∷ t) = refl
free_any n (suc f) d e (Some k ∷ t) = free_any (n + 1) f d e t

pub two_second : (d f : ℕ) (t taken : Descriptors) (r : Option ℕ) → first_free 0 t ≡ Some f → taken ≡ set t f (Some 0) → r ≡ first_free 0 taken →
    with_second (Some f) r ≡ two_free d t
two_second d f t taken r first is second =
    ap (with_second (Some f)) (second ∙ ap (first_free 0) is ∙ free_any 0 f 0 d t) ∙ sym (ap (λ (x : Option ℕ). with_second x (free_beside d t x)) first)

below_inside : (n limit f : ℕ) → Some f ≡ below limit (pos n) → f < limit
below_inside n limit f h = by (nat_lt n limit) refl h
  where
    by : (b : Bool) → nat_lt n limit ≡ b → Some f ≡ (if b then Some n else None) → f < limit
    by true k e = let under = ltb-true n limit k in let same : f ≡ n = cc in omega arith
    by false k e = let never : ⊥ = cc in absurd never

-- a descriptor that a program computed is one of the 16
pub descriptor_inside : (z : ℤ) (f : ℕ) → Some f ≡ descriptor z → f < 16
descriptor_inside (pos n) f h = below_inside n 16 f h
descriptor_inside (negsuc n) f h = let never : ⊥ = cc in absurd never

-- the parts of two free descriptors

first_of : Option (ℕ × ℕ) → ℕ
first_of None = 0
first_of (Some x) = x.0

second_of : Option (ℕ × ℕ) → ℕ
second_of None = 0
second_of (Some x) = x.1

two_same : (d k : ℕ) (t : Descriptors) (x : ℕ × ℕ) (y : Option ℕ) → first_free 0 t ≡ Some k → first_free 0 (set t k (Some d)) ≡ y → Some x ≡ with_second (Some k) y →
    (first_free 0 t ≡ Some x.0) × (first_free 0 (set t x.0 (Some d)) ≡ Some x.1)
unfolding first_of second_of
two_same d k t x None first second h = let never : ⊥ = cc in absurd never
two_same d k t x (Some j) first second h =
    let one : x.0 ≡ k = ap first_of h in
    let two : x.1 ≡ j = ap second_of h in
    (first ∙ ap Some (sym one), ap (λ (n : ℕ). first_free 0 (set t n (Some d))) one ∙ second ∙ ap Some (sym two))

two_found : (d : ℕ) (t : Descriptors) (x : ℕ × ℕ) (y : Option ℕ) → first_free 0 t ≡ y → Some x ≡ with_second y (free_beside d t y) →
    (first_free 0 t ≡ Some x.0) × (first_free 0 (set t x.0 (Some d)) ≡ Some x.1)
two_found d t x None first h = let never : ⊥ = cc in absurd never
two_found d t x (Some k) first h = two_same d k t x (first_free 0 (set t k (Some d))) first refl h

pub two_parts : (d : ℕ) (t : Descriptors) (x : ℕ × ℕ) → Some x ≡ two_free d t → (first_free 0 t ≡ Some x.0) × (first_free 0 (set t x.0 (Some d)) ≡ Some x.1)
two_parts d t x h = two_found d t x (first_free 0 t) refl h

none_same : (d k : ℕ) (t : Descriptors) (y : Option ℕ) → first_free 0 (set t k (Some d)) ≡ y → None ≡ with_second (Some k) y → first_free 0 (set t k (Some d)) ≡ None
none_same d k t None second h = second
none_same d k t (Some j) second h = let never : ⊥ = cc in absurd never

none_found : (d : ℕ) (t : Descriptors) (y : Option ℕ) → first_free 0 t ≡ y → None ≡ with_second y (free_beside d t y) →
    (first_free 0 t ≡ None) ⊎ ((k : ℕ) × (first_free 0 t ≡ Some k) × (first_free 0 (set t k (Some d)) ≡ None))
none_found d t None first h = inl first
none_found d t (Some k) first h = inr (k, first, none_same d k t (first_free 0 (set t k (Some d))) refl h)

pub two_none : (d : ℕ) (t : Descriptors) → None ≡ two_free d t →
    (first_free 0 t ≡ None) ⊎ ((k : ℕ) × (first_free 0 t ≡ Some k) × (first_free 0 (set t k (Some d)) ≡ None))
two_none d t h = none_found d t (first_free 0 t) refl h
