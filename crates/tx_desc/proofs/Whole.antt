-- The plan of a whole table: each description that it names, once, with its new count.
use Rattle.std.proofs.Common.{◌≡◌, ◌≢◌, ℕ, ◌+◌, ◌-◌, ◌<◌, ◌≤◌, ◌⊎◌, Bool, true, false, List, [], ◌∷◌, ◌++◌, length, take, Option, Some, None, if◌then◌else◌, ◌==◌, eq-eqb, nat_lt, get_or, refl, sym, ap, ◌∙◌, subst, inl, inr, arith, length-set, get_or-set_same, get_or-set_other, zero, suc, replicate}
use Rattle.std.proofs.lemmas.Bool.{ne_eqb, ltb-true, ltb-false, lt-ltb}
use Rattle.std.proofs.lemmas.List.{take_more, length_push}
use Rattle.std.proofs.lemmas.List.Sums.{sum_by_push}
use Rattle.std.proofs.Math.ListN.{set}
use Rattle.tx_base.specs.declared.names.DescNo.{DescNo}
use Rattle.tx_model.specs.State.{State, with_writes}
use Rattle.tx_model.specs.Descriptors.{open_in, description_removals}
use Rattle.tx_desc.specs.declared.counts.Names.{Names}
use Rattle.tx_desc.specs.declared.counts.Names.TheVariants.{Fewer}
use Rattle.tx_desc.specs.declared.opened.Opened.{Opened}
use Rattle.tx_desc.specs.declared.plans.NewDesc.{NewDesc}
use Rattle.tx_desc.specs.Places.{Descriptors}
use Rattle.tx_desc.specs.Plans.{put_descs, entries_of, AreNumbers}
use Rattle.tx_desc.specs.Descriptions.{HasDescs, described, recounted, with_fewer}
use Rattle.tx_desc.specs.Counts.{count_in, HasNames, KeepsCounts, Agrees, IsBacked, HasNamed}
use Rattle.tx_desc.proofs.Counting.{count-cons, hit, hit_is, hit_cases, keeps_go, room_entry, room_inside}
use Rattle.tx_desc.specs.CountFacts.{same_names}
use Rattle.tx_desc.proofs.Gone.{IsIn, Sheds, fewer_cases, shed_descs}

-- planned descriptions, one more at the end

put-push : (news : List NewDesc) (new : NewDesc) (D : List (Option Opened)) → put_descs (news ++ new ∷ []) D ≡ set (put_descs news D) new.number.0 new.opened
put-push [] new D = refl
put-push (first ∷ news) new D = put-push news new (set D first.number.0 first.opened)

length-put : (news : List NewDesc) (D : List (Option Opened)) → length (put_descs news D) ≡ length D
length-put [] D = refl
length-put (first ∷ news) D = length-put news (set D first.number.0 first.opened) ∙ length-set D first.number.0 first.opened

numbers-push : (news : List NewDesc) (new : NewDesc) → AreNumbers news → new.number.0 < 64 → AreNumbers (news ++ new ∷ [])
numbers-push [] new all inside = (inside, tt)
numbers-push (first ∷ news) new all inside = (all.0, numbers-push news new all.1 inside)

-- what a number has once the first descriptors, so many of which name it, are planned
abbrev pub planned : Names → ℕ → ℕ → Option Opened → Option Opened
planned names n all p = if nat_lt 0 n then recounted names all p else p

-- the descriptions that the first i descriptors name are planned, each with all its names
pub record Planned (names : Names) (table : Descriptors) (D : List (Option Opened)) (i : ℕ) (news : List NewDesc) : Type 0 where
  pub after : (d : ℕ) → get_or (put_descs news D) d None ≡ planned names (count_in d (take i table)) (count_in d table) (get_or D d None)
  pub once : (d : ℕ) → entries_of d news ≡ (if nat_lt 0 (count_in d (take i table)) then 1 else 0)
  pub numbers : AreNumbers news
  pub few : length news ≤ i

count_next : (e i : ℕ) (table : Descriptors) → i < length table → count_in e (take (i + 1) table) ≡ count_in e (take i table) + hit e (get_or table i None)
count_next e i table inside = ap (count_in e) (take_more table i None inside) ∙ sum_by_push (hit e) (take i table) (get_or table i None)

planned_same : (names : Names) (m n all : ℕ) (p : Option Opened) → nat_lt 0 m ≡ nat_lt 0 n → planned names m all p ≡ planned names n all p
planned_same names m n all p same = ap (λ (b : Bool). if b then recounted names all p else p) same

-- a descriptor that is free, or names a description that an earlier one names
pub planned_skip : (names : Names) (i : ℕ) (table : Descriptors) (D : List (Option Opened)) (news : List NewDesc) → i < length table →
    ((e : ℕ) → get_or table i None ≡ Some e → 0 < count_in e (take i table)) → Planned names table D i news → Planned names table D (i + 1) news
planned_skip names i table D news inside before plan = record {
  after = λ e. plan.after e ∙ planned_same names (count_in e (take i table)) (count_in e (take (i + 1) table)) (count_in e table) (get_or D e None) (same e);
  once = λ e. plan.once e ∙ ap (λ (b : Bool). if b then 1 else 0) (same e);
  numbers = plan.numbers;
  few = let few = plan.few in omega arith;
}
  where
    same : (e : ℕ) → nat_lt 0 (count_in e (take i table)) ≡ nat_lt 0 (count_in e (take (i + 1) table))
    same e =
        let next = count_next e i table inside in
        elim (hit_cases e (get_or table i None)) [
          | inl is ↦
              let some : 0 < count_in e (take i table) = before e is in
              let more : 0 < count_in e (take (i + 1) table) = omega arith in
              lt-ltb 0 (count_in e (take i table)) some ∙ sym (lt-ltb 0 (count_in e (take (i + 1) table)) more)
          | inr none ↦
              let equal : count_in e (take i table) ≡ count_in e (take (i + 1) table) = omega arith in
              ap (nat_lt 0) equal
        ]

-- how many of the first i descriptors name each description
pub record Counted (table : Descriptors) (i : ℕ) (counts : List ℕ) : Type 0 where
  pub sized : length counts ≡ 64
  pub each : (d : ℕ) → get_or counts d 0 ≡ count_in d (take i table)
  pub few : (d : ℕ) → get_or counts d 0 ≤ i

zeros : (n d : ℕ) → get_or (replicate n zero) d zero ≡ zero
zeros zero d = refl
zeros (suc n) zero = refl
zeros (suc n) (suc d) = zeros n d

pub counted_none : (table : Descriptors) → Counted table 0 (replicate 64 0)
counted_none table = record { sized = refl; each = λ d. zeros 64 d; few = λ d. let z = zeros 64 d in omega arith }

-- one more descriptor that names a description
pub counted_hit : (i d : ℕ) (table : Descriptors) (counts : List ℕ) → i < length table → d < 64 → get_or table i None ≡ Some d → Counted table i counts →
    Counted table (i + 1) (set counts d (get_or counts d 0 + 1))
counted_hit i d table counts inside below is counted = record {
  sized = length-set counts d (get_or counts d 0 + 1) ∙ counted.sized;
  each = each;
  few = λ e. let now = each e in let next = count_next e i table inside in let old = counted.each e in let low = counted.few e in let one = most e in omega arith;
}
  where
    most : (e : ℕ) → hit e (get_or table i None) ≤ 1
    most e = elim (hit_cases e (get_or table i None)) [
      | inl here ↦ let one = hit_is e (get_or table i None) here in omega arith
      | inr none ↦ omega arith
    ]

    each : (e : ℕ) → get_or (set counts d (get_or counts d 0 + 1)) e 0 ≡ count_in e (take (i + 1) table)
    each e =
        let next = count_next e i table inside in
        let sized = counted.sized in
        let room : d < length counts = omega arith in
        elim (hit_cases e (get_or table i None)) [
          | inl here ↦
              let both : Some d ≡ Some e = sym is ∙ here in
              let same : e ≡ d = cc in
              let one = hit_is e (get_or table i None) here in
              let old : get_or counts d 0 ≡ count_in e (take i table) = counted.each d ∙ ap (λ (k : ℕ). count_in k (take i table)) (sym same) in
              let sum : get_or counts d 0 + 1 ≡ count_in e (take (i + 1) table) = omega arith in
              ap (λ (k : ℕ). get_or (set counts d (get_or counts d 0 + 1)) k 0) same ∙ get_or-set_same counts d (get_or counts d 0 + 1) 0 room ∙ sum
          | inr other ↦
              let apart : e ≢ d = λ z. let one = hit_is e (get_or table i None) (is ∙ ap Some (sym z)) in omega arith in
              let equal : count_in e (take i table) ≡ count_in e (take (i + 1) table) = omega arith in
              get_or-set_other counts d e (get_or counts d 0 + 1) 0 apart ∙ counted.each e ∙ equal
        ]

-- and one that is free
pub counted_miss : (i : ℕ) (table : Descriptors) (counts : List ℕ) → i < length table → get_or table i None ≡ None → Counted table i counts → Counted table (i + 1) counts
counted_miss i table counts inside free counted = record {
  sized = counted.sized;
  each = λ e. counted.each e ∙ equal e;
  few = λ e. let low = counted.few e in omega arith;
}
  where
    equal : (e : ℕ) → count_in e (take i table) ≡ count_in e (take (i + 1) table)
    equal e =
        let next = count_next e i table inside in
        elim (hit_cases e (get_or table i None)) [
          | inl here ↦ let never : None ≡ Some e = sym free ∙ here in absurd (let no : ⊥ = cc in no)
          | inr none ↦ omega arith
        ]

-- the names of each description that the first i descriptors don't name
pub record Left (table : Descriptors) (i : ℕ) (left : List ℕ) : Type 0 where
  pub sized : length left ≡ 64
  pub each : (d : ℕ) → get_or left d 0 ≡ (if nat_lt 0 (count_in d (take i table)) then 0 else count_in d table)

pub left_skip : (i : ℕ) (table : Descriptors) (left : List ℕ) → i < length table →
    ((e : ℕ) → get_or table i None ≡ Some e → 0 < count_in e (take i table)) → Left table i left → Left table (i + 1) left
left_skip i table left inside before was = record {
  sized = was.sized;
  each = λ e. was.each e ∙ ap (λ (b : Bool). if b then 0 else count_in e table) (same e);
}
  where
    same : (e : ℕ) → nat_lt 0 (count_in e (take i table)) ≡ nat_lt 0 (count_in e (take (i + 1) table))
    same e =
        let next = count_next e i table inside in
        elim (hit_cases e (get_or table i None)) [
          | inl is ↦
              let some : 0 < count_in e (take i table) = before e is in
              let more : 0 < count_in e (take (i + 1) table) = omega arith in
              lt-ltb 0 (count_in e (take i table)) some ∙ sym (lt-ltb 0 (count_in e (take (i + 1) table)) more)
          | inr none ↦
              let equal : count_in e (take i table) ≡ count_in e (take (i + 1) table) = omega arith in
              ap (nat_lt 0) equal
        ]

pub left_push : (i d : ℕ) (table : Descriptors) (left : List ℕ) → i < length table → d < 64 → get_or table i None ≡ Some d → Left table i left → Left table (i + 1) (set left d 0)
left_push i d table left inside below is was = record { sized = length-set left d 0 ∙ was.sized; each = each }
  where
    each : (e : ℕ) → get_or (set left d 0) e 0 ≡ (if nat_lt 0 (count_in e (take (i + 1) table)) then 0 else count_in e table)
    each e =
        let next = count_next e i table inside in
        let sized = was.sized in
        let room : d < length left = omega arith in
        elim (hit_cases e (get_or table i None)) [
          | inl here ↦
              let both : Some d ≡ Some e = sym is ∙ here in
              let same : e ≡ d = cc in
              let one = hit_is e (get_or table i None) here in
              let more : 0 < count_in e (take (i + 1) table) = omega arith in
              ap (λ (k : ℕ). get_or (set left d 0) k 0) same ∙ get_or-set_same left d 0 0 room
              ∙ ap (λ (b : Bool). if b then 0 else count_in e table) (sym (lt-ltb 0 (count_in e (take (i + 1) table)) more))
          | inr other ↦
              let apart : e ≢ d = λ z. let one = hit_is e (get_or table i None) (is ∙ ap Some (sym z)) in omega arith in
              let equal : count_in e (take i table) ≡ count_in e (take (i + 1) table) = omega arith in
              get_or-set_other left d e 0 0 apart ∙ was.each e ∙ ap (λ (n : ℕ). if nat_lt 0 n then 0 else count_in e table) equal
        ]

pub left_all : (table : Descriptors) (counts : List ℕ) → length counts ≡ 64 → ((d : ℕ) → get_or counts d 0 ≡ count_in d table) → Left table 0 counts
left_all table counts sized all = record { sized = sized; each = all }

-- what is left of a description that a descriptor names: nothing where an earlier one names it too, else all its names
pub left_some : (i d : ℕ) (table : Descriptors) (left : List ℕ) → Left table i left → 0 < get_or left d 0 →
    (count_in d (take i table) ≡ 0) × (get_or left d 0 ≡ count_in d table)
left_some i d table left was some = by (nat_lt 0 (count_in d (take i table))) refl (was.each d)
  where
    by : (b : Bool) → nat_lt 0 (count_in d (take i table)) ≡ b → get_or left d 0 ≡ (if b then 0 else count_in d table) → (count_in d (take i table) ≡ 0) × (get_or left d 0 ≡ count_in d table)
    by true e at = absurd (omega (arith, some, at))
    by false e at = (let none = ltb-false 0 (count_in d (take i table)) e in omega (arith, none), at)

pub named_some : (i d : ℕ) (table : Descriptors) → get_or table i None ≡ Some d → 0 < count_in d table
named_some i d [] is = let never : None ≡ Some d = is in absurd (let no : ⊥ = cc in no)
named_some zero d (x ∷ table) is =
    let one = hit_is d x is in
    let next = count-cons d x table in
    omega arith
named_some (suc i) d (x ∷ table) is =
    let more = named_some i d table is in
    let next = count-cons d x table in
    omega arith

pub left_none : (i d : ℕ) (table : Descriptors) (left : List ℕ) → Left table i left → get_or left d 0 ≡ 0 → 0 < count_in d table → 0 < count_in d (take i table)
left_none i d table left was none named = by (nat_lt 0 (count_in d (take i table))) refl (was.each d)
  where
    by : (b : Bool) → nat_lt 0 (count_in d (take i table)) ≡ b → get_or left d 0 ≡ (if b then 0 else count_in d table) → 0 < count_in d (take i table)
    by true e at = ltb-true 0 (count_in d (take i table)) e
    by false e at = absurd (omega (arith, none, named, at))

-- the first descriptor that names a description
pub planned_push : (names : Names) (i : ℕ) (d : DescNo) (table : Descriptors) (D : List (Option Opened)) (news : List NewDesc) (new : NewDesc) →
    i < length table → length D ≡ 64 → get_or table i None ≡ Some d.0 → count_in d.0 (take i table) ≡ 0 → d.0 < 64 → new.number ≡ d →
    new.opened ≡ recounted names (count_in d.0 table) (get_or D d.0 None) → Planned names table D i news → Planned names table D (i + 1) (news ++ new ∷ [])
planned_push names i d table D news new inside sized is first below number opened plan = record {
  after = λ e. ap (λ (l : List (Option Opened)). get_or l e None) (put-push news new D) ∙ at e;
  once = λ e. sum_by_push (λ (entry : NewDesc). if e == entry.number.0 then 1 else 0) news new ∙ entries e;
  numbers = numbers-push news new plan.numbers (subst (λ (k : DescNo). k.0 < 64) (sym number) below);
  few = let few = plan.few in omega (arith, length_push news new);
}
  where
    entries : (e : ℕ) → entries_of e news + (if e == new.number.0 then 1 else 0) ≡ (if nat_lt 0 (count_in e (take (i + 1) table)) then 1 else 0)
    entries e =
        let next = count_next e i table inside in
        ap (λ (k : DescNo). entries_of e news + (if e == k.0 then 1 else 0)) number
        ∙ elim (hit_cases e (get_or table i None)) [
          | inl here ↦
              let same : e ≡ d.0 = cc in
              let one = hit_is e (get_or table i None) here in
              let none : count_in e (take i table) ≡ 0 = ap (λ (k : ℕ). count_in k (take i table)) same ∙ first in
              let old : entries_of e news ≡ 0 = plan.once e ∙ ap (λ (n : ℕ). if nat_lt 0 n then 1 else 0) none in
              let now : count_in e (take (i + 1) table) ≡ 1 = omega arith in
              ap (λ (b : Bool). entries_of e news + (if b then 1 else 0)) (eq-eqb e d.0 same) ∙ ap (λ (n : ℕ). n + 1) old
              ∙ ap (λ (n : ℕ). if nat_lt 0 n then 1 else 0) (sym now)
          | inr other ↦
              let apart : e ≢ d.0 = λ z. let one = hit_is e (get_or table i None) (is ∙ ap Some (sym z)) in omega arith in
              let equal : count_in e (take i table) ≡ count_in e (take (i + 1) table) = omega arith in
              let same : entries_of e news + 0 ≡ entries_of e news = omega arith in
              ap (λ (b : Bool). entries_of e news + (if b then 1 else 0)) (ne_eqb e d.0 apart) ∙ same ∙ plan.once e
              ∙ ap (λ (n : ℕ). if nat_lt 0 n then 1 else 0) equal
        ]

    at : (e : ℕ) → get_or (set (put_descs news D) new.number.0 new.opened) e None ≡ planned names (count_in e (take (i + 1) table)) (count_in e table) (get_or D e None)
    at e =
        let next = count_next e i table inside in
        let all = length-put news D in
        ap (λ (k : DescNo). get_or (set (put_descs news D) k.0 new.opened) e None) number
        ∙ elim (hit_cases e (get_or table i None)) [
          | inl here ↦
              let same : e ≡ d.0 = cc in
              let one = hit_is e (get_or table i None) here in
              let more : 0 < count_in e (take (i + 1) table) = omega arith in
              let room : d.0 < length (put_descs news D) = omega arith in
              ap (λ (k : ℕ). get_or (set (put_descs news D) d.0 new.opened) k None) same
              ∙ get_or-set_same (put_descs news D) d.0 new.opened None room ∙ opened
              ∙ ap (λ (k : ℕ). recounted names (count_in k table) (get_or D k None)) (sym same)
              ∙ ap (λ (b : Bool). if b then recounted names (count_in e table) (get_or D e None) else get_or D e None) (sym (lt-ltb 0 (count_in e (take (i + 1) table)) more))
          | inr other ↦
              let apart : e ≢ d.0 = λ z. let one = hit_is e (get_or table i None) (is ∙ ap Some (sym z)) in omega arith in
              let equal : count_in e (take i table) ≡ count_in e (take (i + 1) table) = omega arith in
              get_or-set_other (put_descs news D) d.0 e new.opened None apart ∙ plan.after e
              ∙ planned_same names (count_in e (take i table)) (count_in e (take (i + 1) table)) (count_in e table) (get_or D e None) (ap (nat_lt 0) equal)
        ]

-- what a planned description asks

pub named_inside : (i d : ℕ) (table : Descriptors) (D : List (Option Opened)) → IsBacked 16 table D → get_or table i None ≡ Some d → d < length D
named_inside i d table D b is = room_inside d 16 D (room_entry i 16 16 (Some d) table D (omega arith) b is)

-- all names come

-- all names are given up

fewer_all : (n others : ℕ) (p : Option Opened) → HasNames (n + others) p → HasNames (0 + others) (recounted Fewer n p)
fewer_all n others p h = by (nat_lt 0 n) refl
  where
    left : (o : Opened) (b : Bool) → nat_lt n o.names ≡ b → HasNames (n + others) (Some o) →
        HasNames (0 + others) (if b then Some (record { desc = o.desc; names = o.names - n }) else None)
    left o true k m = let above = ltb-true n o.names k in (omega (arith, m.1), omega (arith, m.1))
    left o false k m = let below = ltb-false n o.names k in omega (arith, m.1)

    go : (q : Option Opened) → 0 < n → HasNames (n + others) q → HasNames (0 + others) (with_fewer n q)
    go None some k = absurd (omega (arith, k))
    go (Some o) some k = left o (nat_lt n o.names) refl k

    by : (b : Bool) → nat_lt 0 n ≡ b → HasNames (0 + others) (if b then with_fewer n p else p)
    by true k = go p (ltb-true 0 n k) h
    by false k =
        let none = ltb-false 0 n k in
        let same : 0 + others ≡ n + others = omega arith in
        same_names (0 + others) (n + others) p same h

pub dropped_keeps : (table : Descriptors) (D E : List (Option Opened)) →
    ((d : ℕ) → get_or E d None ≡ recounted Fewer (count_in d table) (get_or D d None)) → KeepsCounts table [] D E
dropped_keeps table D E after = record {
  each = λ d others h. subst (HasNames (0 + others)) (sym (after d)) (fewer_all (count_in d table) others (get_or D d None) h);
}

open-in : (d : ℕ) (table : Descriptors) → 0 < count_in d table → IsIn d (open_in table)
unfolding open_in
open-in d [] some = absurd (let none : count_in d [] ≡ 0 = refl in omega arith)
open-in d (None ∷ rest) some = open-in d rest (let sum = count-cons d None rest in omega arith)
open-in d (Some e ∷ rest) some = elim (hit_cases d (Some e)) [
  | inl is ↦ inl (let same : e ≡ d = cc in sym same)
  | inr other ↦ inr (open-in d rest (let sum = count-cons d (Some e) rest in omega arith))
]

dropped_sheds : (table : Descriptors) (D E : List (Option Opened)) →
    ((d : ℕ) → get_or E d None ≡ recounted Fewer (count_in d table) (get_or D d None)) → Sheds (open_in table) D E
dropped_sheds table D E after d = by (nat_lt 0 (count_in d table)) refl
  where
    by : (b : Bool) → nat_lt 0 (count_in d table) ≡ b → (described (get_or E d None) ≡ described (get_or D d None)) ⊎ (IsIn d (open_in table) × (get_or E d None ≡ None))
    by true k =
        let now : get_or E d None ≡ with_fewer (count_in d table) (get_or D d None)
        = after d ∙ ap (λ (b : Bool). if b then with_fewer (count_in d table) (get_or D d None) else get_or D d None) k in
        elim (fewer_cases (count_in d table) (get_or D d None)) [
          | inl same ↦ inl (ap described now ∙ same)
          | inr none ↦ inr (open-in d table (ltb-true 0 (count_in d table) k), now ∙ none)
        ]
    by false k = inl (ap described (after d ∙ ap (λ (b : Bool). if b then with_fewer (count_in d table) (get_or D d None) else get_or D d None) k))

pub dropped_descs : (table : Descriptors) (D E : List (Option Opened)) (others : List Descriptors) (S : State) →
    ((d : ℕ) → get_or E d None ≡ recounted Fewer (count_in d table) (get_or D d None)) → Agrees (table ∷ others) D → HasDescs S D → HasNamed S others →
    HasDescs (with_writes (description_removals (open_in table) S) S) E
dropped_descs table D E others S after a has named =
    shed_descs (open_in table) others S D E (keeps_go table others D E (dropped_keeps table D E after) a) named has (dropped_sheds table D E after)
