-- Tables of owners, told by the owners in them.
use Rattle.std.proofs.Common.{◌≡◌, ℕ, suc, ◌-◌, ◌<◌, ◌≤◌, Bool, true, false, List, length, if◌then◌else◌, nat_lt, Option, Some, None, option_map, get_or, refl, sym, ap, subst, ◌∙◌, inl, inr, arith}
use Rattle.std.proofs.lemmas.Bool.{cases_Bool, ltb-false, ltb-true, lt-ltb}
use Rattle.std.proofs.lemmas.List.{ext_get_or}
use Rattle.tx_base.specs.declared.names.Pid.{Pid}
use Rattle.tx_model.specs.State.{Object, Proc, Desc, Pipe, is_between}
use Rattle.tx_reserve.specs.Objects.{is_small, place_of}
use Rattle.tx_reserve.specs.Reservations.{number_of, owner_of}

-- the object of a place
object_at : ℕ → Object
object_at place = if nat_lt place 256 then Proc (suc place) else (if nat_lt place 320 then Desc (place - 256) else Pipe (place - 320))

abbrev IsAt : ℕ → Object → Type 0
IsAt place o = (is_small o ≡ true) × (place_of o ≡ place)

at : (place : ℕ) → place < 352 → IsAt place (object_at place)
unfolding object_at
at place few = elim (cases_Bool (nat_lt place 256)) [
  | inl e ↦ let small : place < 256 = ltb-true place 256 e in subst (IsAt place) (sym (ap (λ (b : Bool). if b then Proc (suc place) else rest) e)) (between place small, omega arith)
  | inr e ↦ subst (IsAt place) (sym (ap (λ (b : Bool). if b then Proc (suc place) else rest) e)) (elim (cases_Bool (nat_lt place 320)) [
    | inl f ↦ let small : place < 320 = ltb-true place 320 f in
        let big : 256 ≤ place = not_less place 256 e in
        let number : place - 256 < 64 = omega arith in
        subst (IsAt place) (sym (ap (λ (b : Bool). if b then Desc (place - 256) else Pipe (place - 320)) f)) (lt-ltb (place - 256) 64 number, omega arith)
    | inr f ↦ let big : 320 ≤ place = not_less place 320 f in
        let number : place - 320 < 32 = omega arith in
        subst (IsAt place) (sym (ap (λ (b : Bool). if b then Desc (place - 256) else Pipe (place - 320)) f)) (lt-ltb (place - 320) 32 number, omega arith)
  ])
]
  where
    rest : Object
    rest = if nat_lt place 320 then Desc (place - 256) else Pipe (place - 320)

    between : (n : ℕ) → n < 256 → is_between 256 (suc n) ≡ true
    between n small = lt-ltb n 256 small

    not_less : (a b : ℕ) → nat_lt a b ≡ false → b ≤ a
    not_less a b e = ltb-false a b e

same_number : (a b : Option Pid) → option_map number_of a ≡ option_map number_of b → a ≡ b
same_number None None e = refl
same_number None (Some y) e = cc
same_number (Some x) None e = cc
same_number (Some x) (Some y) e = ap (λ (n : Option ℕ). option_map named n) e
  where
    named : ℕ → Pid
    named n = record { 0 = n }

pub same_owners : (one other : List (Option Pid)) → length one ≡ 352 → length other ≡ 352 → ((o : Object) → owner_of one o ≡ owner_of other o) → one ≡ other
unfolding owner_of
same_owners one other first last same = ext_get_or None one other (first ∙ sym last) (λ i few. by i (subst (λ (k : ℕ). i < k) first few))
  where
    by : (i : ℕ) → i < 352 → get_or one i None ≡ get_or other i None
    by i few =
        let is : IsAt i (object_at i) = at i few in
        let told : (if is_small (object_at i) then option_map number_of (get_or one (place_of (object_at i)) None) else None) ≡ (if is_small (object_at i) then option_map number_of (get_or other (place_of (object_at i)) None) else None) = same (object_at i) in
        same_number (get_or one i None) (get_or other i None)
        (subst (λ (k : ℕ). option_map number_of (get_or one k None) ≡ option_map number_of (get_or other k None)) is.1
        (subst (λ (b : Bool). (if b then option_map number_of (get_or one (place_of (object_at i)) None) else None) ≡ (if b then option_map number_of (get_or other (place_of (object_at i)) None) else None)) is.0 told))
