-- How the counts of names follow what descriptors name.
use Rattle.std.proofs.Common.{◌≡◌, ◌≢◌, ℕ, ◌+◌, ◌-◌, ◌<◌, ◌≤◌, ◌⊎◌, Bool, true, false, List, [], ◌∷◌, length, Option, Some, None, if◌then◌else◌, ◌==◌, nat_lt, cond, get_or, refl, sym, ap, ◌∙◌, subst, inl, inr, eq-eqb, eqb-true, arith, get_or-set_same, get_or-set_other}
use Rattle.std.proofs.lemmas.Bool.{ltb-true, ltb-false}
use Rattle.std.proofs.lemmas.List.{get_or_past, set_past}
use Rattle.std.proofs.lemmas.List.Sums.{sum_by-set, sum_by-cons}
use Rattle.std.proofs.Math.ListN.{set}
use Rattle.tx_model.specs.State.{is_number}
use Rattle.tx_desc.specs.declared.opened.Opened.{Opened}
use Rattle.tx_desc.specs.Places.{Descriptors, named_in}
use Rattle.tx_desc.specs.Descriptions.{changed_at, with_more, with_fewer, with_flag}
use Rattle.tx_desc.specs.CountFacts.{names-cons, same_names, keeps_over}
use Rattle.tx_desc.specs.Counts.{count_in, names_in, HasNames, HasRoom, KeepsCounts, Agrees, IsEnough, IsBacked}

-- one where what a descriptor has names the description
abbrev pub hit : ℕ → Option ℕ → ℕ
hit d x = cond (is_number d x) 1 0

pub count-cons : (d : ℕ) (x : Option ℕ) (t : Descriptors) → count_in d (x ∷ t) ≡ hit d x + count_in d t
count-cons d x t = sum_by-cons (hit d) x t

pub hit_same : (d : ℕ) → hit d (Some d) ≡ 1
hit_same d = rw (eq-eqb d d refl) refl

pub hit_cases : (d : ℕ) (x : Option ℕ) → (x ≡ Some d) ⊎ (hit d x ≡ 0)
hit_cases d None = inr refl
hit_cases d (Some e) = by (e == d) refl
  where
    by : (b : Bool) → (e == d) ≡ b → (◌≡◌ {A = Option ℕ} (Some e) (Some d)) ⊎ (hit d (Some e) ≡ 0)
    by true k = inl (ap Some (eqb-true e d k))
    by false k = inr (rw k refl)

-- what a number has after a change there
pub changed_here : (change : Option Opened → Option Opened) (x : Option ℕ) (D : List (Option Opened)) (e : ℕ) →
    change None ≡ None → x ≡ Some e → get_or (changed_at change x D) e None ≡ change (get_or D e None)
changed_here change x D e none is =
    subst (λ (y : Option ℕ). get_or (changed_at change y D) e None ≡ change (get_or D e None)) (sym is) (by (nat_lt e (length D)) refl)
  where
    by : (b : Bool) → nat_lt e (length D) ≡ b → get_or (set D e (change (get_or D e None))) e None ≡ change (get_or D e None)
    by true k = get_or-set_same D e (change (get_or D e None)) None (ltb-true e (length D) k)
    by false k =
        let past = ltb-false e (length D) k in
        let away : get_or D e None ≡ None = get_or_past D e None past in
        ap (λ (l : List (Option Opened)). get_or l e None) (set_past D e (change (get_or D e None)) past) ∙ away ∙ sym none ∙ ap change (sym away)

pub changed_other : (change : Option Opened → Option Opened) (x : Option ℕ) (D : List (Option Opened)) (e : ℕ) →
    hit e x ≡ 0 → get_or (changed_at change x D) e None ≡ get_or D e None
changed_other change None D e other = refl
changed_other change (Some d) D e other =
    let apart : e ≢ d = λ z. let one : hit e (Some d) ≡ 1 = rw (eq-eqb d e (sym z)) refl in omega arith in
    get_or-set_other D d e (change (get_or D d None)) None apart

-- what holds of what each number has after a change there, and elsewhere
pub changed_each : (P : ℕ → Option Opened → Type 0) (change : Option Opened → Option Opened) (x : Option ℕ) (D : List (Option Opened)) →
    change None ≡ None → ((e : ℕ) → x ≡ Some e → P e (change (get_or D e None))) → ((e : ℕ) → hit e x ≡ 0 → P e (get_or D e None)) →
    (e : ℕ) → P e (get_or (changed_at change x D) e None)
changed_each P change x D none here there e =
    elim (hit_cases e x)
    [ inl is ↦ subst (P e) (sym (changed_here change x D e none is)) (here e is) | inr other ↦ subst (P e) (sym (changed_other change x D e other)) (there e other) ]

pub hit_is : (d : ℕ) (x : Option ℕ) → x ≡ Some d → hit d x ≡ 1
hit_is d x is = ap (hit d) is ∙ hit_same d

more_names : (m n : ℕ) (p : Option Opened) → m ≡ 1 + n → HasNames n p → IsEnough 1 1 p → HasNames m (with_more 1 p)
more_names m n None one h k = absurd (omega (arith, k))
more_names m n (Some o) one h k = (omega (arith, h.0), omega (arith, h.1))

fewer_names : (m n : ℕ) (p : Option Opened) → m ≡ 1 + n → HasNames m p → HasNames n (with_fewer 1 p)
fewer_names m n None one h = absurd (omega (arith, h))
fewer_names m n (Some o) one h = by (nat_lt 1 o.names) refl
  where
    by : (b : Bool) → nat_lt 1 o.names ≡ b → HasNames n (if b then Some (record { desc = o.desc; names = o.names - 1 }) else None)
    by true k = let above = ltb-true 1 o.names k in (omega (arith, h.1), omega (arith, h.1))
    by false k = let below = ltb-false 1 o.names k in omega (arith, h.0, h.1)

-- what keeps the counts, one after another
pub keeps_then : (t u v : Descriptors) (D E F : List (Option Opened)) → KeepsCounts t u D E → KeepsCounts u v E F → KeepsCounts t v D F
keeps_then t u v D E F one two = record { each = λ e others h. two.each e others (one.each e others h) }

keeps_count : (t u : Descriptors) (D : List (Option Opened)) → ((e : ℕ) → count_in e u ≡ count_in e t) → KeepsCounts t u D D
keeps_count t u D same = record { each = λ e others h. same_names (count_in e u + others) (count_in e t + others) (get_or D e None) (ap (λ (n : ℕ). n + others) (same e)) h }

-- one name more
raise_keeps : (x : Option ℕ) (t : Descriptors) (D : List (Option Opened)) → HasRoom 1 x D → KeepsCounts t (x ∷ t) D (changed_at (with_more 1) x D)
raise_keeps x t D room = record {
  each = changed_each (λ e p. (others : ℕ) → HasNames (count_in e t + others) (get_or D e None) → HasNames (count_in e (x ∷ t) + others) p) (with_more 1) x D refl
      (λ e is others h.
      let one = hit_is e x is in
      let sum = count-cons e x t in
      let more : count_in e (x ∷ t) + others ≡ 1 + (count_in e t + others) = omega arith in
      more_names (count_in e (x ∷ t) + others) (count_in e t + others) (get_or D e None) more h (subst (λ (y : Option ℕ). HasRoom 1 y D) is room))
      (λ e other others h.
      let sum = count-cons e x t in
      let same : count_in e (x ∷ t) + others ≡ count_in e t + others = omega arith in
      same_names (count_in e (x ∷ t) + others) (count_in e t + others) (get_or D e None) same h);
}

-- one name fewer
lower_keeps : (x : Option ℕ) (t : Descriptors) (D : List (Option Opened)) → KeepsCounts (x ∷ t) t D (changed_at (with_fewer 1) x D)
lower_keeps x t D = record {
  each = changed_each (λ e p. (others : ℕ) → HasNames (count_in e (x ∷ t) + others) (get_or D e None) → HasNames (count_in e t + others) p) (with_fewer 1) x D refl
      (λ e is others h.
      let one = hit_is e x is in
      let sum = count-cons e x t in
      let fewer : count_in e (x ∷ t) + others ≡ 1 + (count_in e t + others) = omega arith in
      fewer_names (count_in e (x ∷ t) + others) (count_in e t + others) (get_or D e None) fewer h)
      (λ e other others h.
      let sum = count-cons e x t in
      let same : count_in e t + others ≡ count_in e (x ∷ t) + others = omega arith in
      same_names (count_in e t + others) (count_in e (x ∷ t) + others) (get_or D e None) same h);
}

-- a descriptor names y in the place of what it named
rename_keeps : (f : ℕ) (y : Option ℕ) (t : Descriptors) (D : List (Option Opened)) → f < length t → KeepsCounts (y ∷ t) (get_or t f None ∷ set t f y) D D
rename_keeps f y t D inside = keeps_count (y ∷ t) (get_or t f None ∷ set t f y) D
    (λ e.
    let a = count-cons e (get_or t f None) (set t f y) in
    let b = count-cons e y t in
    let cut : count_in e (set t f y) + hit e (get_or t f None) ≡ count_in e t + hit e y = sum_by-set (hit e) t f y None inside in
    omega arith)

-- descriptor f comes to name y: the count of y is raised, that of what it named is lowered
pub moves_keeps : (f : ℕ) (y : Option ℕ) (t : Descriptors) (D : List (Option Opened)) → f < length t → HasRoom 1 y D →
    KeepsCounts t (set t f y) D (changed_at (with_fewer 1) (get_or t f None) (changed_at (with_more 1) y D))
moves_keeps f y t D inside room =
    let mid = changed_at (with_more 1) y D in
    let after = changed_at (with_fewer 1) (get_or t f None) mid in
    keeps_then t (y ∷ t) (set t f y) D mid after (raise_keeps y t D room)
    (keeps_then (y ∷ t) (get_or t f None ∷ set t f y) (set t f y) mid mid after (rename_keeps f y t mid inside) (lower_keeps (get_or t f None) (set t f y) mid))

-- a free number gets a description with one name
open_names : (n : ℕ) (p : Option Opened) → p ≡ None → HasNames n p → n ≡ 0
open_names n p none h = subst (HasNames n) none h

open_keeps : (d : ℕ) (o : Opened) (t : Descriptors) (D : List (Option Opened)) → d < length D → get_or D d None ≡ None → o.names ≡ 1 →
    KeepsCounts t (Some d ∷ t) D (set D d (Some o))
open_keeps d o t D inside free one = record {
  each = λ e others h. elim (hit_cases e (Some d)) [
    | inl is ↦
        let z : e ≡ d = cc in
        let nobody = open_names (count_in e t + others) (get_or D e None) (ap (λ (k : ℕ). get_or D k None) z ∙ free) h in
        let sum = count-cons e (Some d) t in
        let first = hit_is e (Some d) is in
        let now : get_or (set D d (Some o)) e None ≡ Some o = ap (λ (k : ℕ). get_or (set D d (Some o)) k None) z ∙ get_or-set_same D d (Some o) None inside in
        subst (HasNames (count_in e (Some d ∷ t) + others)) (sym now) (omega arith, omega arith)
    | inr other ↦
        let apart : e ≢ d = λ z. let first : hit e (Some d) ≡ 1 = rw (eq-eqb d e (sym z)) refl in omega arith in
        let sum = count-cons e (Some d) t in
        let same : count_in e (Some d ∷ t) + others ≡ count_in e t + others = omega arith in
        subst (HasNames (count_in e (Some d ∷ t) + others)) (sym (get_or-set_other D d e (Some o) None apart))
        (same_names (count_in e (Some d ∷ t) + others) (count_in e t + others) (get_or D e None) same h)
  ];
}

-- a free descriptor comes to name a new description
pub opens_keeps : (d : ℕ) (o : Opened) (f : ℕ) (t : Descriptors) (D : List (Option Opened)) → d < length D → get_or D d None ≡ None → o.names ≡ 1 → f < length t →
    get_or t f None ≡ None → KeepsCounts t (set t f (Some d)) D (set D d (Some o))
opens_keeps d o f t D inside free one place vacant =
    let after = set D d (Some o) in
    keeps_then t (Some d ∷ t) (set t f (Some d)) D after after (open_keeps d o t D inside free one)
    (keeps_then (Some d ∷ t) (None ∷ set t f (Some d)) (set t f (Some d)) after after after
    (subst (λ (x : Option ℕ). KeepsCounts (Some d ∷ t) (x ∷ set t f (Some d)) after after) vacant (rename_keeps f (Some d) t after place))
    (lower_keeps None (set t f (Some d)) after))

flag_names : (on : Bool) (n : ℕ) (p : Option Opened) → HasNames n p → HasNames n (with_flag on p)
flag_names on n None h = h
flag_names on n (Some o) h = h

-- a flag is no name
pub flag_keeps : (on : Bool) (x : Option ℕ) (D : List (Option Opened)) → KeepsCounts [] [] D (changed_at (with_flag on) x D)
flag_keeps on x D = record {
  each = changed_each (λ e p. (others : ℕ) → HasNames (count_in e [] + others) (get_or D e None) → HasNames (count_in e [] + others) p) (with_flag on) x D refl
      (λ e is others h. flag_names on (count_in e [] + others) (get_or D e None) h) (λ e other others h. h);
}

no_names : (ts : List Descriptors) (e : ℕ) → names_in e ts ≡ count_in e [] + names_in e ts
no_names ts e = let none : count_in e [] ≡ 0 = refl in omega arith

pub keeps_agree : (t u : Descriptors) (ts : List Descriptors) (D E : List (Option Opened)) → KeepsCounts t u D E → Agrees (t ∷ ts) D → Agrees (u ∷ ts) E
keeps_agree t u ts D E = keeps_over t u (t ∷ ts) (u ∷ ts) D E (λ e. names_in e ts) (λ e. names-cons e t ts) (λ e. names-cons e u ts)

pub keeps_come : (u : Descriptors) (ts : List Descriptors) (D E : List (Option Opened)) → KeepsCounts [] u D E → Agrees ts D → Agrees (u ∷ ts) E
keeps_come u ts D E = keeps_over [] u ts (u ∷ ts) D E (λ e. names_in e ts) (no_names ts) (λ e. names-cons e u ts)

pub keeps_go : (t : Descriptors) (ts : List Descriptors) (D E : List (Option Opened)) → KeepsCounts t [] D E → Agrees (t ∷ ts) D → Agrees ts E
keeps_go t ts D E = keeps_over t [] (t ∷ ts) ts D E (λ e. names_in e ts) (λ e. names-cons e t ts) (no_names ts)

pub keeps_stay : (ts : List Descriptors) (D E : List (Option Opened)) → KeepsCounts [] [] D E → Agrees ts D → Agrees ts E
keeps_stay ts D E = keeps_over [] [] ts ts D E (λ e. names_in e ts) (no_names ts) (no_names ts)

-- what one descriptor names is counted among what all name
pub hit-le : (e f : ℕ) (t : Descriptors) → hit e (get_or t f None) ≤ count_in e t
hit-le e f t = by (nat_lt f (length t)) refl
  where
    by : (b : Bool) → nat_lt f (length t) ≡ b → hit e (get_or t f None) ≤ count_in e t
    by true k =
        let cut = sum_by-set (hit e) t f None None (ltb-true f (length t) k) in
        omega (arith, cut)
    by false k =
        let none = ap (hit e) (get_or_past t f None (ltb-false f (length t) k)) in
        omega (arith, none)

enough_one : (n room hi : ℕ) (p : Option Opened) → 1 ≤ n → room ≤ hi → IsEnough n hi p → IsEnough 1 room p
enough_one n room hi None some less h = absurd (omega (arith, h))
enough_one n room hi (Some o) some less h = (omega (arith, h.0), omega (arith, h.1))

pub room_entry : (f room hi : ℕ) (x : Option ℕ) (t : Descriptors) (D : List (Option Opened)) → room ≤ hi → IsBacked hi t D → get_or t f None ≡ x → HasRoom room x D
room_entry f room hi None t D less b is = tt
room_entry f room hi (Some d) t D less b is =
    let one = hit_is d (get_or t f None) is in
    let some = hit-le d f t in
    enough_one (count_in d t) room hi (get_or D d None) (omega arith) less (b.enough d)

-- what a descriptor names has the room that all have
pub backed_room : (x : Option ℕ) (room hi : ℕ) (t : Descriptors) (D : List (Option Opened)) → room ≤ hi → IsBacked hi t D → HasRoom room (named_in t x) D
backed_room None room hi t D less b = tt
backed_room (Some f) room hi t D less b = room_entry f room hi (get_or t f None) t D less b refl

-- what has room is there
pub room_there : (d room : ℕ) (D : List (Option Opened)) → HasRoom room (Some d) D → get_or D d None ≢ None
room_there d room D h = by (get_or D d None) h
  where
    by : (p : Option Opened) → IsEnough 1 room p → p ≢ None
    by None h = absurd (omega (arith, h))
    by (Some o) h = λ z. cc

pub room_inside : (d room : ℕ) (D : List (Option Opened)) → HasRoom room (Some d) D → d < length D
room_inside d room D h = by (nat_lt d (length D)) refl
  where
    by : (x : Bool) → nat_lt d (length D) ≡ x → d < length D
    by true k = ltb-true d (length D) k
    by false k = absurd (room_there d room D h (get_or_past D d None (ltb-false d (length D) k)))
