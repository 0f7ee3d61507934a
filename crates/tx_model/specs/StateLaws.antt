-- When two states agree at an object, and the first laws of states: a map with one place changed,
-- and states that have the same everywhere. Own rules.
use Rattle.std.specs.Prelude.{◌≡◌, ◌≢◌, ℕ, Bool, true, false, List, ◌⊎◌, ◌==◌, if◌then◌else◌}
use Rattle.std.proofs.Common.{refl, inl, inr, eq-eqb, eqb-true}
use Rattle.std.proofs.lemmas.Bool.{both_ways}
use Rattle.tx_model.specs.State.{State, Object, Proc, Desc, Pipe, Held, put_at, has_object, has_parent, names_at, side_in}

-- the two states have the same at the object
abbrev pub EqualAt : State → State → Object → Type 0
EqualAt S R (Proc n) = S.procs n ≡ R.procs n
EqualAt S R (Desc n) = S.descs n ≡ R.descs n
EqualAt S R (Pipe n) = S.pipes n ≡ R.pipes n
EqualAt S R (Held n) = S.held n ≡ R.held n

-- the two states have the same family of the object: the children of a process (those of process 1
-- apart), the descriptors that name a description, the ends of a pipe
abbrev pub AgreeFamily : State → State → Object → Type 0
AgreeFamily S R (Proc n) = n ≢ 1 → (q : ℕ) → has_parent n (S.procs q) ≡ has_parent n (R.procs q)
AgreeFamily S R (Desc n) = (q f : ℕ) → names_at n f (S.procs q) ≡ names_at n f (R.procs q)
AgreeFamily S R (Pipe n) = (d : ℕ) → side_in n (S.descs d) ≡ side_in n (R.descs d)
AgreeFamily S R (Held n) = Unit {0}

-- the two states are the same at the object, its family and the width included
pub record AgreeAt (S R : State) (o : Object) : Type 0 where
  pub width : S.width ≡ R.width
  pub equal : EqualAt S R o
  pub family : AgreeFamily S R o

-- the two states are the same at each of the objects
abbrev pub AgreeOn : List Object → State → State → Type 0
AgreeOn os S R = (o : Object) → has_object o os ≡ true → AgreeAt S R o

-- what is put in a place is there
pub put_here : {A : Type 0} (f : ℕ → A) (k : ℕ) (v : A) → put_at f k v k ≡ v
put_here {A} f k v = rw (eq-eqb k k refl) refl

-- and what is asked for is either what was put in, or what was there before
pub put_cases : {A : Type 0} (f : ℕ → A) (k : ℕ) (v : A) (n : ℕ)
    → ((n ≡ k) × (put_at f k v n ≡ v)) ⊎ ((n ≢ k) × (put_at f k v n ≡ f n))
put_cases {A} f k v n = by (n == k) refl
  where
    by : (b : Bool) → (n == k) ≡ b
        → ((n ≡ k) × ((if b then v else f n) ≡ v)) ⊎ ((n ≢ k) × ((if b then v else f n) ≡ f n))
    by true e = inl (eqb-true n k e, refl)
    by false e = inr (λ z. both_ways (n == k) e (eq-eqb n k z), refl)

-- nothing else is changed
pub put_there : {A : Type 0} (f : ℕ → A) (k : ℕ) (v : A) (n : ℕ) → n ≢ k → put_at f k v n ≡ f n
put_there {A} f k v n ne = elim (put_cases f k v n) [ inl e ↦ absurd (ne e.0) | inr e ↦ e.1 ]

-- states of the same width that have the same at each object are the same
pub state_ext : (S R : State) → S.width ≡ R.width → ((o : Object) → EqualAt S R o) → S ≡ R
state_ext S R w h =
    λ i.
    record {
      width = w i;
      procs = λ n. h (Proc n) i;
      descs = λ n. h (Desc n) i;
      pipes = λ n. h (Pipe n) i;
      held = λ n. h (Held n) i;
    }
