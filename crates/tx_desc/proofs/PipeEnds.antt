-- The ends of a pipe among the descriptions.
use Rattle.std.proofs.Common.{◌≡◌, ℕ, zero, suc, ◌+◌, ◌-◌, ◌<◌, ◌≤◌, Bool, true, false, List, Option, Some, None, if◌then◌else◌, nat_lt, count_by, get_or, length, take, refl, sym, ap, ◌∙◌, arith, inl, inr}
use Rattle.std.proofs.lemmas.Bool.{cases_Bool, lt-ltb}
use Rattle.std.proofs.lemmas.List.{length-set, take_all}
use Rattle.std.proofs.lemmas.List.Sums.{count_by_more_yes, count_by_more_no, sum_by-set}
use Rattle.std.proofs.Math.ListN.{set}
use Rattle.tx_model.specs.State.{Side as End, ReadSide, WriteSide, Description, State, side_in}
use Rattle.tx_model.specs.Descriptors.{is_side, has_description, some_below}
use Rattle.tx_model.specs.Words.{has_side_below}
use Rattle.tx_model.specs.Book.{is_read_side, is_write_side}
use Rattle.tx_desc.specs.declared.opened.Side.{Side}
use Rattle.tx_desc.specs.declared.opened.Side.TheVariants.{Read, Write}
use Rattle.tx_desc.specs.declared.opened.Opened.{Opened}
use Rattle.tx_desc.specs.Descriptions.{HasDescs, has_side, side_test, is_end_of}
use Rattle.tx_desc.specs.EndCounts.{IsCounted, count_at, one_of}

or_right : (a b : Bool) → b ≡ true → (if a then true else b) ≡ true
or_right true b h = refl
or_right false b h = h

or_left : (a b : Bool) → b ≡ false → (if a then true else b) ≡ a
or_left true b h = refl
or_left false b h = h

-- among the first n places one is of the kind exactly where their count is above 0
counted_below : (test : Option Opened → Bool) (P : ℕ → Bool) (D : List (Option Opened)) (n : ℕ) → n ≤ length D → ((d : ℕ) → P d ≡ test (get_or D d None)) →
    some_below P n ≡ nat_lt 0 (count_by test (take n D))
unfolding some_below
counted_below test P D zero small same = refl
counted_below test P D (suc n) small same =
    let before = counted_below test P D n (omega arith) same in
    let inside : n < length D = omega arith in
    let next : n + 1 ≡ suc n = omega arith in
    elim (cases_Bool (test (get_or D n None))) [
      | inl hit ↦
          let more = count_by_more_yes test D n None inside hit in
          or_right (some_below P n) (P n) (same n ∙ hit)
          ∙ sym (lt-ltb 0 (count_by test (take (suc n) D)) (rw (← next, more) (omega arith)))
      | inr miss ↦
          let more = count_by_more_no test D n None inside miss in
          or_left (some_below P n) (P n) (same n ∙ miss) ∙ before ∙ rw (← next, more) refl
    ]

counted_within : (test : Option Opened → Bool) (P : ℕ → Bool) (D : List (Option Opened)) → length D ≡ 64 → ((d : ℕ) → P d ≡ test (get_or D d None)) →
    some_below P 64 ≡ nat_lt 0 (count_by test D)
counted_within test P D sized same =
    let all = take_all 64 D (omega arith) in
    counted_below test P D 64 (omega arith) same ∙ ap (λ (xs : List (Option Opened)). nat_lt 0 (count_by test xs)) all

-- a side of the pipe is there exactly where some place has it
side_counted : (side : Side) (k : ℕ) (S : State) (D : List (Option Opened)) → length D ≡ 64 → HasDescs S D →
    nat_lt 0 (count_by (is_end_of side k) D) ≡ has_side side k S
side_counted side k S D sized has = sym (by side)
  where
    at_place : (side : Side) (d : ℕ) → is_side (side_test side) (side_in k (S.descs d)) ≡ is_end_of side k (get_or D d None)
    at_place side d = ap (λ (x : Option Description). is_side (side_test side) (side_in k x)) (has d)

    by : (side : Side) → has_side side k S ≡ nat_lt 0 (count_by (is_end_of side k) D)
    by Read = counted_within (is_end_of Read k) (λ d. is_side is_read_side (side_in k (S.descs d))) D sized (at_place Read)
    by Write = counted_within (is_end_of Write k) (λ d. is_side is_write_side (side_in k (S.descs d))) D sized (at_place Write)

-- a side of the pipe is there exactly where its count is above 0
pub end_there : (side : Side) (k : ℕ) (S : State) (D : List (Option Opened)) (counts : List ℕ) → k < 256 → IsCounted D counts → HasDescs S D →
    nat_lt 0 (count_at side k counts) ≡ has_side side k S
end_there side k S D counts small is has = ap (nat_lt 0) (is.each side k small) ∙ side_counted side k S D is.sized has

-- the same once a place has something else
pub end_instead : (side : Side) (k d : ℕ) (new : Option Opened) (S : State) (D : List (Option Opened)) (counts : List ℕ) →
    k < 256 → d < 64 → IsCounted D counts → HasDescs S (set D d new) →
    nat_lt 0 (count_at side k counts + one_of side k new - one_of side k (get_or D d None)) ≡ has_side side k S
end_instead side k d new S D counts small inside is has =
    let before = is.each side k small in
    let moved = sum_by-set (one_of side k) D d new None (rw is.sized inside) in
    ap (nat_lt 0) (omega arith) ∙ side_counted side k S (set D d new) (length-set D d new ∙ is.sized) has

either : (x : Option End) → (if is_side is_read_side x then true else is_side is_write_side x) ≡ is_side (λ (side : End). true) x
either None = refl
either (Some ReadSide) = refl
either (Some WriteSide) = refl

mixed : (a b c d : Bool) → (if (if a then true else b) then true else (if c then true else d)) ≡ (if (if a then true else c) then true else (if b then true else d))
mixed true b true d = refl
mixed true b false d = refl
mixed false true true d = refl
mixed false true false d = refl
mixed false false true d = refl
mixed false false false d = refl

both_below : (k n : ℕ) (S : State) →
    (if has_side_below is_read_side k n S then true else has_side_below is_write_side k n S) ≡ has_side_below (λ (side : End). true) k n S
unfolding some_below
both_below k zero S = refl
both_below k (suc n) S =
    mixed (has_side_below is_read_side k n S) (is_side is_read_side (side_in k (S.descs n))) (has_side_below is_write_side k n S) (is_side is_write_side (side_in k (S.descs n)))
    ∙ (λ i. if both_below k n S i then true else either (side_in k (S.descs n)) i)

pub both_sides : (k : ℕ) (S : State) → (if has_side Read k S then true else has_side Write k S) ≡ has_description k S
both_sides k S = both_below k 64 S

pub read_side : (r : Bool) (k : ℕ) (S : State) → r ≡ has_side Read k S → r ≡ true → true ≡ has_description k S
read_side r k S is found = sym (or_first (has_side Read k S) (has_side Write k S) (sym is ∙ found)) ∙ both_sides k S
  where
    or_first : (a b : Bool) → a ≡ true → (if a then true else b) ≡ true
    or_first true b h = refl
    or_first false b h = let never : ⊥ = cc in absurd never

pub write_side : (r w : Bool) (k : ℕ) (S : State) → r ≡ has_side Read k S → r ≡ false → w ≡ has_side Write k S → w ≡ has_description k S
write_side r w k S is away other = other ∙ sym (or_second (has_side Read k S) (has_side Write k S) (sym is ∙ away)) ∙ both_sides k S
  where
    or_second : (a b : Bool) → a ≡ false → (if a then true else b) ≡ b
    or_second true b h = let never : ⊥ = cc in absurd never
    or_second false b h = refl
