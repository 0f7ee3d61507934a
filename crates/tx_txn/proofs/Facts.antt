-- First facts on objects, lists of objects, owners and marks.
use Rattle.std.proofs.Common.{◌≡◌, ℕ, Bool, true, false, List, [], ◌∷◌, Option, Some, None, if◌then◌else◌, ◌==◌, refl, sym, ap, ◌∙◌, subst, inl, inr, ◌⊎◌, eq-eqb, eqb-true, ne_eqb}
use Rattle.std.proofs.lemmas.Bool.{both_ways, cases_Bool}
use Rattle.tx_base.specs.declared.marks.Mark.{Mark}
use Rattle.tx_laws.specs.Fits.{IsIn}
use Rattle.tx_laws.specs.TwoStates.{in_set, is_owner, pick, freed}
use Rattle.tx_model.specs.History.{just, is_other_starter, targets, objects_reserved}
use Rattle.tx_model.specs.ObjectFacts.{same_is, has_head, has_tail}
use Rattle.tx_model.specs.Words.{processes_of}
use Rattle.tx_model.specs.Membership.{Table, is_of, Progress, Continues, Parks, Forks, Begins, mark_unless_of}
use Rattle.tx_model.specs.State.{State, Sending, Object, Proc, Desc, Pipe, Held, same_object, has_object}
use Rattle.tx_model.specs.StateLaws.{EqualAt}

pub part_refl : (S : State) (o : Object) → EqualAt S S o
part_refl S (Proc n) = refl
part_refl S (Desc n) = refl
part_refl S (Pipe n) = refl
part_refl S (Held n) = refl

pub part_sym : (S R : State) (o : Object) → EqualAt S R o → EqualAt R S o
part_sym S R (Proc n) h = sym h
part_sym S R (Desc n) h = sym h
part_sym S R (Pipe n) h = sym h
part_sym S R (Held n) h = sym h

pub part_trans : (S R Q : State) (o : Object) → EqualAt S R o → EqualAt R Q o → EqualAt S Q o
part_trans S R Q (Proc n) h k = h ∙ k
part_trans S R Q (Desc n) h k = h ∙ k
part_trans S R Q (Pipe n) h k = h ∙ k
part_trans S R Q (Held n) h k = h ∙ k

-- what is picked is the one state or the other
pub pick_true : (P : Object → Bool) (S R : State) (o : Object) → P o ≡ true → EqualAt (pick P S R) S o
pick_true P S R (Proc n) h = rw h refl
pick_true P S R (Desc n) h = rw h refl
pick_true P S R (Pipe n) h = rw h refl
pick_true P S R (Held n) h = rw h refl

pub pick_false : (P : Object → Bool) (S R : State) (o : Object) → P o ≡ false → EqualAt (pick P S R) R o
pick_false P S R (Proc n) h = rw h refl
pick_false P S R (Desc n) h = rw h refl
pick_false P S R (Pipe n) h = rw h refl
pick_false P S R (Held n) h = rw h refl

-- two numbers compare alike in either order
pub eq_comm : (s t : ℕ) → (s == t) ≡ (t == s)
eq_comm s t = elim (cases_Bool (s == t)) [
  | inl e ↦ e ∙ sym (eq-eqb t s (sym (eqb-true s t e)))
  | inr e ↦ e ∙ sym (ne_eqb t s (λ h. both_ways (s == t) e (eq-eqb s t (sym h))))
]

pub none_left : (x y : Bool) → (if x then true else y) ≡ false → (x ≡ false) × (y ≡ false)
none_left true y h = cc
none_left false y h = (refl, h)

-- the target of a send, no live starter of another transaction, is one of the targets
pub in_targets : (t : Table) (p : ℕ) (ms : List Sending) (m : Sending) → IsIn m ms → is_other_starter t p m.target ≡ false → has_object (Proc m.target) (targets t p ms) ≡ true
unfolding targets
in_targets t p [] m i e = absurd i
in_targets t p (n ∷ ms) m (inl i) e =
    subst (λ (x : Sending). has_object (Proc m.target) (if is_other_starter t p x.target then targets t p ms else Proc x.target ∷ targets t p ms) ≡ true) i
    (rw e (has_head (Proc m.target) (targets t p ms)))
in_targets t p (n ∷ ms) m (inr i) e = by (is_other_starter t p n.target) (in_targets t p ms m i e)
  where
    by : (b : Bool) → has_object (Proc m.target) (targets t p ms) ≡ true → has_object (Proc m.target) (if b then targets t p ms else Proc n.target ∷ targets t p ms) ≡ true
    by true rest = rest
    by false rest = has_tail (Proc m.target) (Proc n.target) (targets t p ms) rest

-- where no send goes to such a starter, the targets are those of all sends
pub all_targets : (t : Table) (p : ℕ) (ms : List Sending) → ((m : Sending) → IsIn m ms → is_other_starter t p m.target ≡ false) → targets t p ms ≡ processes_of ms
unfolding targets
all_targets t p [] h = refl
all_targets t p (m ∷ ms) h = rw (h m (inl refl)) (ap (λ (os : List Object). Proc m.target ∷ os) (all_targets t p ms (λ n i. h n (inr i))))

-- a first step reserves what its transaction holds, and what it names; another one what it names
pub reserved_foot : (part : Progress) (s : ℕ) (F : List Object) (o : Object) → has_object o F ≡ true → has_object o (objects_reserved part s F) ≡ true
reserved_foot Continues s F o h = h
reserved_foot Parks s F o h = h
reserved_foot (Forks c) s F o h = h
reserved_foot (Begins defers) s F o h = has_tail o (Held s) F h

pub reserved_cases : (part : Progress) (s : ℕ) (F : List Object) (o : Object) → has_object o (objects_reserved part s F) ≡ true → (o ≡ Held s) ⊎ (has_object o F ≡ true)
unfolding has_object
reserved_cases Continues s F o h = inr h
reserved_cases Parks s F o h = inr h
reserved_cases (Forks c) s F o h = inr h
reserved_cases (Begins defers) s F o h = by (same_object o (Held s)) refl h
  where
    by : (b : Bool) → same_object o (Held s) ≡ b → (if b then true else has_object o F) ≡ true → (o ≡ Held s) ⊎ (has_object o F ≡ true)
    by true e k = inl (same_is o (Held s) e)
    by false e k = inr k

pub not_reserved : (part : Progress) (s : ℕ) (F : List Object) (o : Object) → has_object o (objects_reserved part s F) ≡ false → has_object o F ≡ false
not_reserved part s F o h = elim (cases_Bool (has_object o F)) [
  | inl e ↦ absurd (both_ways (has_object o (objects_reserved part s F)) h (reserved_foot part s F o e))
  | inr e ↦ e
]

pub owner_true : (s : ℕ) (x : Option ℕ) → is_owner s x ≡ true → x ≡ Some s
owner_true s None h = cc
owner_true s (Some t) h = ap Some (eqb-true t s h)

pub owner_self : (s : ℕ) (x : Option ℕ) → x ≡ Some s → is_owner s x ≡ true
owner_self s x h = rw h (eq-eqb s s refl)

pub is_just : (s : ℕ) (x : Option ℕ) → in_set (just s) x ≡ true → x ≡ Some s
is_just s None h = cc
is_just s (Some t) h = ap Some (eqb-true t s h)

pub in_just : (s : ℕ) (x : Option ℕ) → x ≡ Some s → in_set (just s) x ≡ true
in_just s x h = rw h (eq-eqb s s refl)

-- what is left when the transaction of s is over
pub freed_some : (s t : ℕ) (x : Option ℕ) → freed s x ≡ Some t → (x ≡ Some t) × ((t == s) ≡ false)
freed_some s t None h = cc
freed_some s t (Some u) h = by (u == s) refl h
  where
    by : (b : Bool) → (u == s) ≡ b → (if b then None else Some u) ≡ Some t → (Some u ≡ Some t) × ((t == s) ≡ false)
    by true e k = cc
    by false e k = let z : u ≡ t = cc in (k, subst (λ (y : ℕ). (y == s) ≡ false) z e)

pub freed_else : (s t : ℕ) (x : Option ℕ) → x ≡ Some t → (t == s) ≡ false → freed s x ≡ Some t
freed_else s t x h n = rw h (rw n refl)

-- a number is a member of one transaction at most
pub of_unique : (s t : ℕ) (x : Option Mark) → is_of s x ≡ true → is_of t x ≡ true → s ≡ t
of_unique s t None h k = cc
of_unique s t (Some m) h k = sym (eqb-true m.starter.0 s h) ∙ eqb-true m.starter.0 t k

-- and of no other one
pub of_other : (s t : ℕ) (x : Option Mark) → is_of s x ≡ true → (t == s) ≡ false → is_of t x ≡ false
of_other s t x h ne = elim (cases_Bool (is_of t x)) [
  | inl e ↦ absurd (both_ways (t == s) ne (eq-eqb t s (of_unique t s x e h)))
  | inr e ↦ e
]

pub of_unmarked : (t s : ℕ) (x : Option Mark) → is_of t (mark_unless_of s x) ≡ (if t == s then false else is_of t x)
of_unmarked t s None = by (t == s)
  where
    by : (b : Bool) → false ≡ (if b then false else false)
    by true = refl
    by false = refl
of_unmarked t s (Some m) = by (m.starter.0 == s) refl (t == s) refl
  where
    gone : m.starter.0 ≡ s → (t == s) ≡ false → false ≡ (m.starter.0 == t)
    gone z e = sym (ne_eqb m.starter.0 t (λ h. both_ways (t == s) e (eq-eqb t s (sym h ∙ z))))

    by : (b : Bool) → (m.starter.0 == s) ≡ b → (c : Bool) → (t == s) ≡ c → is_of t (if b then None else Some m) ≡ (if c then false else (m.starter.0 == t))
    by true e true f = refl
    by true e false f = gone (eqb-true m.starter.0 s e) f
    by false e true f = ne_eqb m.starter.0 t (λ h. both_ways (m.starter.0 == s) e (eq-eqb m.starter.0 s (h ∙ eqb-true t s f)))
    by false e false f = refl
