-- Where nobody is in the way of a step, nobody else owns what it names.
use Rattle.std.proofs.Common.{◌≡◌, ℕ, Bool, true, false, Option, Some, None, if◌then◌else◌, ◌==◌, refl, sym, ap, ◌∙◌, eq-eqb, eqb-true}
use Rattle.tx_base.specs.Slots.{slot_at}
use Rattle.tx_base.specs.declared.marks.Mark.{Mark}
use Rattle.tx_model.specs.ObjectFacts.{has_left}
use Rattle.tx_step.specs.Contents.{IsContent}
use Rattle.tx_laws.specs.Footprints.{is_shared}
use Rattle.tx_laws.specs.TwoStates.{is_owner, states_view}
use Rattle.tx_content.specs.Content.{content_of, now_of, owner_at, view_of}
use Rattle.tx_content.specs.Insides.{IsFootprint, IsFree}
use Rattle.tx_content.specs.declared.content.Content.{Content}
use Rattle.tx_model.specs.Events.{Event, Commit, actor, effect, objects}
use Rattle.tx_model.specs.History.{event_footprint, targets}
use Rattle.tx_model.specs.Membership.{is_of}
use Rattle.tx_model.specs.State.{Object, Proc, Desc, Pipe, Held, State, has_object, same_object}
use Rattle.tx_model.specs.View.{starter_in_way, present}
use Rattle.tx_model.specs.Words.{IsClear}
use Rattle.tx_reserve.specs.Objects.{has_place, is_in, is_small, place_of}
use Rattle.tx_reserve.specs.Reservations.{owner_of, unless}
use Rattle.tx_reserve.specs.declared.objects.Objects.{Objects}
use Rattle.tx_step.specs.Laws.{StepLaws}
use Rattle.tx_txn.specs.Content.{two_states_of}
use Rattle.tx_txn.specs.Marks.{table_at}

-- what an event reads or writes it names
pub named_too : (k : Content) (ev : Event) (S : State) (o : Object) → has_object o (objects ev S) ≡ true → has_object o (event_footprint (table_at k.marks) ev S) ≡ true
unfolding event_footprint
named_too k ev S o h = has_left o (objects ev S) (targets (table_at k.marks) (actor ev) (effect ev S).sends) h

-- what is read or written before a commit is so by it too
pub commits_too : (s : ℕ) (ev : Event) (S : State) (o : Object) → has_object o (objects ev S) ≡ true → has_object o (objects (Commit s ev) S) ≡ true
unfolding objects has_object
commits_too s ev S o h = by (same_object o (Held s))
  where
    by : (b : Bool) → (if b then true else has_object o (objects ev S)) ≡ true
    by true = refl
    by false = h

own_left : (s t : ℕ) → t ≡ s → unless (Some s) (Some t) ≡ None
own_left s t same = by (t == s) (eq-eqb t s same)
  where
    by : (b : Bool) → b ≡ true → (if b then None else Some t) ≡ None
    by true e = refl
    by false e = cc

small_shared : (o : Object) → is_small o ≡ true → is_shared o ≡ true
small_shared (Proc n) h = refl
small_shared (Desc n) h = refl
small_shared (Pipe n) h = refl
small_shared (Held n) h = h

in_small : (set : Objects) (o : Object) → is_in set o ≡ true → is_small o ≡ true
unfolding is_in
in_small set o h = by (is_small o) h
  where
    by : (b : Bool) → (if b then has_place set.words (place_of o) else false) ≡ true → b ≡ true
    by true k = refl
    by false k = k

shared_owner : (k : Content) (o : Object) → is_shared o ≡ true → owner_at k o ≡ owner_of k.owners o
shared_owner k (Proc n) h = refl
shared_owner k (Desc n) h = refl
shared_owner k (Pipe n) h = refl
shared_owner k (Held n) h = cc

module _ (laws : StepLaws) (k : Content) (is : IsContent k) (E : Event) (clear : starter_in_way (view_of k) E ≡ None) where
  pub now_seen : present (view_of k) ≡ now_of k
  unfolding view_of
  now_seen = laws.present (two_states_of (content_of k))

  pub is_clear : IsClear (view_of k) E
  unfolding view_of
  is_clear = laws.clear (view_of k) E is.kept.sound clear

  -- who owns what the event names has its actor as a member
  owner_member : (o : Object) (t : ℕ) → has_object o (event_footprint (table_at k.marks) E (now_of k)) ≡ true → owner_at k o ≡ Some t → is_of t (slot_at k.marks (actor E)) ≡ true
  unfolding view_of states_view
  owner_member o t there owned =
      laws.members (view_of k) E o t is.kept.sound is_clear
      (ap (λ (S : State). has_object o (event_footprint (table_at k.marks) E S)) now_seen ∙ there)
      (ap (is_owner t) owned ∙ eq-eqb t t refl)

  -- where the actor is in no transaction, nobody owns what its event names
  pub unowned_none : slot_at k.marks (actor E) ≡ None → (o : Object) → has_object o (event_footprint (table_at k.marks) E (now_of k)) ≡ true → unless None (owner_at k o) ≡ None
  unowned_none free o there = by (owner_at k o) refl
    where
      by : (x : Option ℕ) → owner_at k o ≡ x → unless None x ≡ None
      by None e = refl
      by (Some t) e = let no : false ≡ true = sym (ap (is_of t) free) ∙ owner_member o t there e in cc

  -- where it is a member, its transaction alone may
  pub unowned_own : (s : ℕ) (m : Mark) → slot_at k.marks (actor E) ≡ Some m → m.starter.0 ≡ s →
      (o : Object) → has_object o (event_footprint (table_at k.marks) E (now_of k)) ≡ true → unless (Some s) (owner_at k o) ≡ None
  unowned_own s m at starter o there = by (owner_at k o) refl
    where
      by : (x : Option ℕ) → owner_at k o ≡ x → unless (Some s) x ≡ None
      by None e = refl
      by (Some t) e = own_left s t (sym (eqb-true m.starter.0 t (sym (ap (is_of t) at) ∙ owner_member o t there e)) ∙ starter)

  -- so of a set that is its footprint
  pub free_own : (s : ℕ) (m : Mark) → slot_at k.marks (actor E) ≡ Some m → m.starter.0 ≡ s → (footprint : Objects) → IsFootprint k E footprint → IsFree k s footprint
  free_own s m at starter footprint is_footprint o there =
      let shared : is_shared o ≡ true = small_shared o (in_small footprint o there) in
      ap (unless (Some s)) (sym (shared_owner k o shared)) ∙ unowned_own s m at starter o (sym (is_footprint o shared) ∙ there)
