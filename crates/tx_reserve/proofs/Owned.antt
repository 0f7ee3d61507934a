-- Owners of objects, as their places say them; and what loops over a set make of them.
use Rattle.std.proofs.Common.{◌≡◌, ℕ, ◌<◌, Bool, true, false, List, length, if◌then◌else◌, ◌==◌, Option, Some, None, is_some, option_map, arith, refl, ap, sym, ◌∙◌, inl, inr, get_or, eqb-true, replicate, slice_set}
use Rattle.std.proofs.lemmas.Bool.{cases_Bool, cases_lt, both_ways, eqb-false}
use Rattle.std.proofs.lemmas.List.{get_or-replicate, get_or-set_same, get_or-set_other, get_or_past, get_or_read_under, length-replicate}
use Rattle.tx_base.specs.declared.names.Pid.{Pid}
use Rattle.tx_model.specs.ObjectFacts.{same_is}
use Rattle.tx_model.specs.State.{Object, same_object}
use Rattle.tx_reserve.specs.Objects.{is_in, is_small, object_at, place_of, TakesOut}
use Rattle.tx_reserve.specs.declared.objects.Objects.{Objects}
use Rattle.tx_reserve.specs.Reservations.{number_of, owner_of}
use Rattle.tx_reserve.proofs.Members.{same_place, object_at_place, place_below, both_same, in_small}

-- what no number may be is nobody's
pub owner_large : (places : List (Option Pid)) (o : Object) → is_small o ≡ false → owner_of places o ≡ None
unfolding owner_of
owner_large places o large = rw large refl

pub owner_small : (places : List (Option Pid)) (o : Object) (place : ℕ) → is_small o ≡ true → place ≡ place_of o → option_map number_of (get_or places place None) ≡ owner_of places o
unfolding owner_of
owner_small places o place small is = rw small (ap (λ (q : ℕ). option_map number_of (get_or places q None)) is)

-- what is read at a place is the owner of its object
pub owner_read : (places now : List (Option Pid)) (place : ℕ) (read found : Option Pid) → places ≡ now → read ≡ found
    → length places ≡ 352 → place < 352 → read ≡ get_or places place read → owner_of now (object_at place) ≡ option_map number_of found
owner_read places now place read found same is sized below at =
    let object = object_at_place place below in
    ap (λ (all : List (Option Pid)). owner_of all (object_at place)) (sym same) ∙ sym (owner_small places (object_at place) place object.0 (sym object.1))
    ∙ ap (option_map number_of) (sym (get_or_read_under places place 352 read None at below (sym sized)) ∙ is)

-- the owner in place of another
pub owner_set : (places : List (Option Pid)) (x o : Object) (place : ℕ) (owner : Option Pid) → length places ≡ 352 → is_small x ≡ true → place ≡ place_of x
    → owner_of (slice_set places place owner) o ≡ (if same_object o x then (if is_small o then option_map number_of owner else None) else owner_of places o)
unfolding owner_of
owner_set places x o place owner sized small is = elim (cases_Bool (is_small o)) [
  | inl e ↦ rw e (elim (cases_Bool (place_of o == place_of x)) [
    | inl f ↦
        let here : place_of o ≡ place = eqb-true (place_of o) (place_of x) f ∙ sym is in
        let below = place_below o e in
        rw (same_place o x e small ∙ f) (ap (λ (q : ℕ). option_map number_of (get_or (slice_set places place owner) q None)) here
        ∙ ap (option_map number_of) (get_or-set_same places place owner None (omega arith)))
    | inr f ↦
        rw (same_place o x e small ∙ f)
        (ap (option_map number_of) (get_or-set_other places place (place_of o) owner None (λ z. eqb-false (place_of o) (place_of x) f (z ∙ is))))
  ])
  | inr e ↦ rw e (sym (both_same (same_object o x) None))
]

-- an object of a number that may not be stays nobody's
pub owner_not_set : (places : List (Option Pid)) (x o : Object) (owner : Option ℕ) → is_small x ≡ false
    → owner_of places o ≡ (if same_object o x then (if is_small o then owner else None) else owner_of places o)
owner_not_set places x o owner large = elim (cases_Bool (same_object o x)) [
  | inl e ↦
      let other : is_small o ≡ false = ap is_small (same_is o x e) ∙ large in
      rw (e, other) (owner_large places o other)
  | inr e ↦ rw e refl
]

none_at : (n k : ℕ) → get_or (replicate {A = Option Pid} n None) k None ≡ None
none_at n k = elim (cases_lt k n) [
  | inl lt ↦ get_or-replicate n k None None lt
  | inr le ↦ let none : List (Option Pid) = replicate n None in get_or_past none k None (rw (length-replicate {A = Option Pid} n None) le)
]

-- where nobody stands, nobody owns anything
pub nobody_owns : (n : ℕ) (o : Object) → owner_of (replicate n None) o ≡ None
unfolding owner_of
nobody_owns n o = ap (λ (x : Option Pid). if is_small o then option_map number_of x else None) (none_at n (place_of o)) ∙ both_same (is_small o) None

-- the objects of the set, but for the rest, were given this owner
pub record Gave (owner : Option ℕ) (all rest : Objects) (before now : List (Option Pid)) : Type 0 where
  pub owners : (o : Object) → owner_of now o ≡ (if is_in rest o then owner_of before o else (if is_in all o then owner else owner_of before o))
  pub within : (o : Object) → is_in rest o ≡ true → is_in all o ≡ true

pub gave_none : (owner : Option ℕ) (all : Objects) (places : List (Option Pid)) → Gave owner all all places places
gave_none owner all places = record {
  owners = λ o. elim (cases_Bool (is_in all o)) [ inl e ↦ rw e refl | inr e ↦ rw e refl ];
  within = λ o there. there;
}

-- what is left of the rest is in what the rest was in
pub taken_within : {rest left : Objects} (all : Objects) (x : Object) → TakesOut rest left x → ((o : Object) → is_in rest o ≡ true → is_in all o ≡ true)
    → (o : Object) → is_in left o ≡ true → is_in all o ≡ true
taken_within {rest} {left} all x out within o there = elim (cases_Bool (same_object o x)) [
  | inl e ↦ let gone : is_in left o ≡ false = rw e at (out.left o) in absurd (both_ways (is_in left o) gone there)
  | inr e ↦ let same : is_in left o ≡ is_in rest o = rw e at (out.left o) in within o (sym same ∙ there)
]

pub gave_one : {owner : Option ℕ} {all rest left : Objects} {before now after : List (Option Pid)} (x : Object) → Gave owner all rest before now → TakesOut rest left x
    → ((o : Object) → owner_of after o ≡ (if same_object o x then (if is_small o then owner else None) else owner_of now o)) → Gave owner all left before after
gave_one {owner} {all} {rest} {left} {before} {now} {after} x gave out set = record {
  owners = λ o. elim (cases_Bool (same_object o x)) [
    | inl e ↦
        let was : is_in rest o ≡ true = ap (is_in rest) (same_is o x e) ∙ out.was_in in
        let gone : is_in left o ≡ false = rw e at (out.left o) in
        let given : owner_of after o ≡ owner = rw (e, in_small rest o was) at (set o) in
        rw (gone, gave.within o was) given
    | inr e ↦
        let same : is_in left o ≡ is_in rest o = rw e at (out.left o) in
        let kept : owner_of after o ≡ owner_of now o = rw e at (set o) in
        rw same (kept ∙ gave.owners o)
  ];
  within = taken_within all x out gave.within;
}

pub gave_all : {owner : Option ℕ} {all rest : Objects} {before now : List (Option Pid)} → Gave owner all rest before now → ((o : Object) → is_in rest o ≡ false)
    → (o : Object) → owner_of now o ≡ (if is_in all o then owner else owner_of before o)
gave_all {owner} {all} {rest} {before} {now} gave none o = gave.owners o ∙ rw (none o) refl

-- of the set, but for the rest, these were nobody's
pub record AreFresh (all rest fresh : Objects) (before : List (Option Pid)) : Type 0 where
  pub each : (o : Object) → is_in fresh o ≡ (if is_in rest o then false else (if is_some (owner_of before o) then false else is_in all o))

pub fresh_none : (all fresh : Objects) (before : List (Option Pid)) → ((o : Object) → is_in fresh o ≡ false) → AreFresh all all fresh before
fresh_none all fresh before none = record {
  each = λ o. none o ∙ (elim (cases_Bool (is_in all o)) [ inl e ↦ rw e refl | inr e ↦ rw e (sym (both_same (is_some (owner_of before o)) false)) ]);
}

pub fresh_more : {all rest left fresh more : Objects} {before : List (Option Pid)} (x : Object) → AreFresh all rest fresh before → TakesOut rest left x
    → is_in all x ≡ true → is_some (owner_of before x) ≡ false
    → ((o : Object) → is_in more o ≡ (if same_object o x then is_small o else is_in fresh o)) → AreFresh all left more before
fresh_more {all} {rest} {left} {fresh} {more} {before} x fresh_so out among free put = record {
  each = λ o. elim (cases_Bool (same_object o x)) [
    | inl e ↦
        let here : o ≡ x = same_is o x e in
        let was : is_in rest o ≡ true = ap (is_in rest) here ∙ out.was_in in
        let gone : is_in left o ≡ false = rw e at (out.left o) in
        let now : is_in more o ≡ is_small o = rw e at (put o) in
        let nobody : is_some (owner_of before o) ≡ false = ap (λ (y : Object). is_some (owner_of before y)) here ∙ free in
        let there : is_in all o ≡ true = ap (is_in all) here ∙ among in
        rw (gone, nobody, there) (now ∙ in_small rest o was)
    | inr e ↦
        let same : is_in left o ≡ is_in rest o = rw e at (out.left o) in
        let kept : is_in more o ≡ is_in fresh o = rw e at (put o) in
        rw same (kept ∙ fresh_so.each o)
  ];
}

pub fresh_same : {all rest left fresh : Objects} {before : List (Option Pid)} (x : Object) → AreFresh all rest fresh before → TakesOut rest left x
    → is_some (owner_of before x) ≡ true → AreFresh all left fresh before
fresh_same {all} {rest} {left} {fresh} {before} x fresh_so out owned = record {
  each = λ o. elim (cases_Bool (same_object o x)) [
    | inl e ↦
        let here : o ≡ x = same_is o x e in
        let was : is_in rest o ≡ true = ap (is_in rest) here ∙ out.was_in in
        let gone : is_in left o ≡ false = rw e at (out.left o) in
        let old : is_in fresh o ≡ false = rw was at (fresh_so.each o) in
        let owner : is_some (owner_of before o) ≡ true = ap (λ (y : Object). is_some (owner_of before y)) here ∙ owned in
        rw (gone, owner) old
    | inr e ↦
        let same : is_in left o ≡ is_in rest o = rw e at (out.left o) in
        rw same (fresh_so.each o)
  ];
}

pub fresh_all : {all rest fresh : Objects} {before : List (Option Pid)} → AreFresh all rest fresh before → ((o : Object) → is_in rest o ≡ false)
    → (o : Object) → is_in fresh o ≡ (if is_some (owner_of before o) then false else is_in all o)
fresh_all {all} {rest} {fresh} {before} fresh_so none o = fresh_so.each o ∙ rw (none o) refl

owned_some : (x : Option Pid) → is_some (option_map number_of x) ≡ is_some x
owned_some None = refl
owned_some (Some pid) = refl

-- what is still to be given has the owner that it had
pub owned_before : {owner : Option ℕ} {all rest left : Objects} {before now : List (Option Pid)} {b : Bool} (x : Object) → Gave owner all rest before now → TakesOut rest left x
    → (found : Option Pid) → option_map number_of found ≡ owner_of now x → is_some found ≡ b → is_some (owner_of before x) ≡ b
owned_before {owner} {all} {rest} {left} {before} {now} {b} x gave out found is test =
    let kept : owner_of now x ≡ owner_of before x = rw out.was_in at (gave.owners x) in
    ap is_some (sym kept ∙ sym is) ∙ owned_some found ∙ test
