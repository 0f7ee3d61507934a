-- Short facts of objects and of lists of objects, with their proofs. Nothing here has to be
-- believed.
use Rattle.std.specs.Prelude.{◌≡◌, ℕ, Bool, true, false, List, [], ◌∷◌, ◌++◌, ◌⊎◌, if◌then◌else◌}
use Rattle.std.proofs.Common.{refl, sym, ap, ◌∙◌, inl, inr, eq-eqb, eqb-true}
use Rattle.std.proofs.lemmas.Bool.{both_ways}
use Rattle.tx_model.specs.State.{Sending, Object, Proc, Desc, Pipe, Held, same_object, has_object}
use Rattle.tx_model.specs.View.{some_object}
use Rattle.tx_model.specs.Membership.{Table}
use Rattle.tx_model.specs.History.{is_other_starter, targets}

-- an object is the same as itself
pub same_self : (o : Object) → same_object o o ≡ true
same_self (Proc n) = eq-eqb n n refl
same_self (Desc n) = eq-eqb n n refl
same_self (Pipe n) = eq-eqb n n refl
same_self (Held n) = eq-eqb n n refl

-- objects that the test calls the same are one
pub same_is : (o x : Object) → same_object o x ≡ true → o ≡ x
same_is (Proc n) (Proc m) h = ap Proc (eqb-true n m h)
same_is (Proc n) (Desc m) h = cc
same_is (Proc n) (Pipe m) h = cc
same_is (Proc n) (Held m) h = cc
same_is (Desc n) (Proc m) h = cc
same_is (Desc n) (Desc m) h = ap Desc (eqb-true n m h)
same_is (Desc n) (Pipe m) h = cc
same_is (Desc n) (Held m) h = cc
same_is (Pipe n) (Proc m) h = cc
same_is (Pipe n) (Desc m) h = cc
same_is (Pipe n) (Pipe m) h = ap Pipe (eqb-true n m h)
same_is (Pipe n) (Held m) h = cc
same_is (Held n) (Proc m) h = cc
same_is (Held n) (Desc m) h = cc
same_is (Held n) (Pipe m) h = cc
same_is (Held n) (Held m) h = ap Held (eqb-true n m h)

-- a list has its first object
pub has_head : (o : Object) (os : List Object) → has_object o (o ∷ os) ≡ true
unfolding has_object
has_head o os = rw (same_self o) refl

-- and each of those after it
pub has_tail : (o x : Object) (os : List Object) → has_object o os ≡ true
    → has_object o (x ∷ os) ≡ true
unfolding has_object
has_tail o x os h = by (same_object o x)
  where
    by : (b : Bool) → (if b then true else has_object o os) ≡ true
    by true = refl
    by false = h

-- two lists together have the objects of the first
pub has_left : (o : Object) (xs ys : List Object) → has_object o xs ≡ true
    → has_object o (xs ++ ys) ≡ true
unfolding has_object
has_left o [] ys h = cc
has_left o (x ∷ xs) ys h = by (same_object o x) h (has_left o xs ys)
  where
    by : (b : Bool) → (if b then true else has_object o xs) ≡ true
        → (has_object o xs ≡ true → has_object o (xs ++ ys) ≡ true)
        → (if b then true else has_object o (xs ++ ys)) ≡ true
    by true k rest = refl
    by false k rest = rest k

-- and those of the second
pub has_right : (o : Object) (xs ys : List Object) → has_object o ys ≡ true
    → has_object o (xs ++ ys) ≡ true
has_right o [] ys h = h
has_right o (x ∷ xs) ys h = has_tail o x (xs ++ ys) (has_right o xs ys h)

-- and no others
pub has_either : (o : Object) (xs ys : List Object) → has_object o (xs ++ ys) ≡ true
    → (has_object o xs ≡ true) ⊎ (has_object o ys ≡ true)
unfolding has_object
has_either o [] ys h = inr h
has_either o (x ∷ xs) ys h = by (same_object o x) h (has_either o xs ys)
  where
    by : (b : Bool) → (if b then true else has_object o (xs ++ ys)) ≡ true
        → (has_object o (xs ++ ys) ≡ true → (has_object o xs ≡ true) ⊎ (has_object o ys ≡ true))
        → ((if b then true else has_object o xs) ≡ true) ⊎ (has_object o ys ≡ true)
    by true k rest = inl refl
    by false k rest = rest k

-- where none of a list passes a test, no object of the list does
pub meets_not : (os : List Object) (P : Object → Bool) (o : Object) → has_object o os ≡ true
    → P o ≡ true → some_object os P ≡ false → ⊥
unfolding has_object some_object
meets_not [] P o h k e = cc
meets_not (x ∷ xs) P o h k e =
    by (same_object o x) (P x) refl refl h e (λ j none. meets_not xs P o j k none)
  where
    by : (b c : Bool) → same_object o x ≡ b → P x ≡ c → (if b then true else has_object o xs) ≡ true
        → (if c then true else some_object xs P) ≡ false
        → (has_object o xs ≡ true → some_object xs P ≡ false → ⊥) → ⊥
    by b true z y j none rest = cc
    by true false z y j none rest = both_ways (P x) y (ap P (sym (same_is o x z)) ∙ k)
    by false false z y j none rest = rest j none

-- what is no process is no target of a send
pub targets_lack : (o : Object) → ((n : ℕ) → same_object o (Proc n) ≡ false)
    → (t : Table) (p : ℕ) (ms : List Sending) → has_object o (targets t p ms) ≡ false
unfolding has_object targets
targets_lack o other t p [] = refl
targets_lack o other t p (m ∷ ms) = by (is_other_starter t p m.target) (targets_lack o other t p ms)
  where
    by : (b : Bool) → has_object o (targets t p ms) ≡ false
        → has_object o (if b then targets t p ms else Proc m.target ∷ targets t p ms) ≡ false
    by true rest = rest
    by false rest = rw (other m.target) rest
