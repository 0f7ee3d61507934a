-- Lists of objects that meet a test, and what an event names of what transactions hold.
use Rattle.std.proofs.Common.{◌≡◌, ℕ, Bool, true, false, List, [], ◌∷◌, if◌then◌else◌, refl, sym, ap, ◌∙◌, inl, inr}
use Rattle.std.proofs.lemmas.Bool.{both_ways}
use Rattle.tx_model.specs.Events.{Event, actor, effect, objects}
use Rattle.tx_model.specs.History.{event_footprint, targets}
use Rattle.tx_model.specs.Membership.{Table}
use Rattle.tx_model.specs.ObjectFacts.{same_is, has_head, has_tail, has_either, targets_lack}
use Rattle.tx_model.specs.State.{Object, Held, State, has_object, same_object}
use Rattle.tx_model.specs.View.{some_object}

-- an object of the list passes the test
pub record Meets (os : List Object) (P : Object → Bool) : Type 0 where
  pub at : Object
  pub named : has_object at os ≡ true
  pub passes : P at ≡ true

-- a list that meets a test has an object that passes it
pub meets_some : (os : List Object) (P : Object → Bool) → some_object os P ≡ true → Meets os P
unfolding some_object
meets_some [] P h = cc
meets_some (x ∷ xs) P h = by (P x) refl h (meets_some xs P)
  where
    by : (b : Bool) → P x ≡ b → (if b then true else some_object xs P) ≡ true → (some_object xs P ≡ true → Meets xs P) → Meets (x ∷ xs) P
    by true e k rest = record { at = x; named = has_head x xs; passes = e }
    by false e k rest = let m = rest k in record { at = m.at; named = has_tail m.at x xs m.named; passes = m.passes }

pub some_meets : (os : List Object) (P : Object → Bool) (o : Object) → has_object o os ≡ true → P o ≡ true → some_object os P ≡ true
unfolding has_object some_object
some_meets [] P o there passes = cc
some_meets (x ∷ xs) P o there passes = by (same_object o x) refl there (λ rest. some_meets xs P o rest passes)
  where
    later : (b : Bool) → some_object xs P ≡ true → (if b then true else some_object xs P) ≡ true
    later true h = refl
    later false h = h

    by : (b : Bool) → same_object o x ≡ b → (if b then true else has_object o xs) ≡ true → (has_object o xs ≡ true → some_object xs P ≡ true) → (if P x then true else some_object xs P) ≡ true
    by true e h rest = let here : P x ≡ true = ap P (sym (same_is o x e)) ∙ passes in rw here refl
    by false e h rest = later (P x) (rest h)

-- what an event names of what transactions hold, it reads or writes
pub held_named : (t : Table) (ev : Event) (S : State) (s : ℕ) → has_object (Held s) (event_footprint t ev S) ≡ true → has_object (Held s) (objects ev S) ≡ true
unfolding event_footprint
held_named t ev S s h = elim (has_either (Held s) (objects ev S) (targets t (actor ev) (effect ev S).sends) h) [
  | inl e ↦ e
  | inr e ↦ absurd (both_ways (has_object (Held s) (targets t (actor ev) (effect ev S).sends)) (targets_lack (Held s) (λ n. refl) t (actor ev) (effect ev S).sends) e)
]
