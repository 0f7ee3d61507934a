-- Rules that change their own process in place.
use Rattle.std.proofs.Common.{◌≡◌, ℕ, Bool, true, false, List, [], ℤ, Option, Some, None, is_some, if◌then◌else◌, ◌==◌, slice_index_or, refl, ap, ap₂}
use Rattle.std.proofs.lemmas.Bool.{both_ways}
use Rattle.tx_base.specs.declared.steps.Refusal.{Refusal}
use Rattle.tx_model.specs.ObjectFacts.{has_head}
use Rattle.tx_model.specs.State.{Process, State, Object, Proc, Desc, Held, SetProc, is_number, names_at, has_object}
use Rattle.tx_model.specs.Effects.{Inside, Effect, idle, with_answer}
use Rattle.tx_model.specs.Words.{Own, answers_with, own_effect, answer_effect}
use Rattle.tx_laws.proofs.Objects.{WriteFits, WritesFit, ConclusionIn}
use Rattle.tx_laws.proofs.Owed.{IsLocal}

-- the effect stays in these objects, its posts apart
abbrev pub StaysIn : State → List Object → Effect → Type 0
StaysIn S all f = WritesFit S all f.writes × ConclusionIn f.conclusion all

-- the process keeps its parent, its descriptors and its status
pub record KeepsPlace (me new : Process) : Type 0 where
  pub parent : new.parent ≡ me.parent
  pub descriptors : new.descriptors ≡ me.descriptors
  pub status : new.status ≡ me.status

pub in_place : (me new : Process) → new.parent ≡ me.parent → new.descriptors ≡ me.descriptors → new.status ≡ me.status → KeepsPlace me new
in_place me new a b c = record { parent = a; descriptors = b; status = c }

-- the names of two processes, where those of their descriptors are the same
names_same : (q me : Process) (d i : ℕ) → q.status ≡ me.status → is_number d (slice_index_or q.descriptors i None) ≡ is_number d (slice_index_or me.descriptors i None)
    → names_at d i (Some q) ≡ names_at d i (Some me)
names_same q me d i e h = ap₂ (λ (x : Option ℕ) (b : Bool). if is_some x then false else b) e h

module _ (p : ℕ) (me : Process) (S : State) (all : List Object) (e : S.procs p ≡ Some me) (h : has_object (Proc p) all ≡ true) where
  -- the process is put in its own place with the same parent, and with other names of the objects alone
  pub self_fits : (q : Process) → q.parent ≡ me.parent → q.status ≡ me.status
      → ((d i : ℕ) → has_object (Desc d) all ≡ false → is_number d (slice_index_or q.descriptors i None) ≡ is_number d (slice_index_or me.descriptors i None))
      → WriteFits S all (SetProc p (Some q))
  self_fits q a b c = (h, λ n ne k. rw e (ap (λ (m : ℕ). m == n) a), λ d i k. rw e (names_same q me d i b (c d i k)))

  pub kept_fits : (q : Process) → KeepsPlace me q → WriteFits S all (SetProc p (Some q))
  kept_fits q k = self_fits q k.parent k.status (λ d i l. ap (λ (xs : List (Option ℕ)). is_number d (slice_index_or xs i None)) k.descriptors)

  pub noted_fits : (r : ℤ) → WriteFits S all (SetProc p (Some (with_answer r me)))
  noted_fits r = kept_fits (with_answer r me) (in_place me (with_answer r me) refl refl refl)

  pub done_fits : (r : ℤ) → StaysIn S all (answer_effect p r me)
  done_fits r = ((noted_fits r, tt), tt)

pub held_nowhere : (u : ℕ) → has_object (Held u) [] ≡ false
unfolding has_object
held_nowhere u = refl

-- a rule that does nothing
pub idle_local : (inside : Option Inside) (p : ℕ) (me : Process) (why : Refusal) → IsLocal inside p me (λ S. idle why) (λ S. [])
idle_local inside p me why = record {
  same = λ S R a. refl;
  foot = λ S R a. refl;
  fits = λ S all e c. (tt, tt);
  sends = λ S i e k m h. absurd h;
  holds = λ S i e u h. absurd (both_ways (has_object (Held u) []) (held_nowhere u) h);
}

-- a rule that concerns its own process alone, and keeps its place
pub own_local : (inside : Option Inside) (p : ℕ) (me : Process) (own : Own) → KeepsPlace me own.process → IsLocal inside p me (λ S. own_effect p own) (λ S. [])
own_local inside p me own k = record {
  same = λ S R a. refl;
  foot = λ S R a. refl;
  fits = λ S all e c. ((kept_fits p me S all e (c (Proc p) (has_head (Proc p) [])) own.process k, tt), tt);
  sends = λ S i e member m h. absurd h;
  holds = λ S i e u h. absurd (both_ways (has_object (Held u) []) (held_nowhere u) h);
}

-- a rule that answers, and does nothing else
pub done_local : (inside : Option Inside) (p : ℕ) (me : Process) (r : ℤ) → IsLocal inside p me (λ S. answer_effect p r me) (λ S. [])
done_local inside p me r = own_local inside p me (answers_with r me) (in_place me (with_answer r me) refl refl refl)
