-- The way of a step that names one process alone, and sends nothing.
use Rattle.std.proofs.Common.{◌≡◌, ℕ, Bool, true, false, [], ◌∷◌, Option, Some, None, if◌then◌else◌, option_map, refl, sym, ap, subst, ◌∙◌, List, arith}
use Rattle.std.specs.Prelude.{slice_index_or}
use Rattle.tx_base.specs.Slots.{slot_at}
use Rattle.tx_base.specs.declared.marks.Mark.{Mark}
use Rattle.tx_base.specs.declared.names.Pid.{Pid}
use Rattle.tx_base.specs.declared.steps.Call.{Call}
use Rattle.tx_base.specs.declared.steps.Step.TheVariants.{Call as Calls}
use Rattle.tx_model.specs.ObjectFacts.{same_self, same_is}
use Rattle.tx_step.proofs.InWay.{starter_in_way_is}
use Rattle.tx_step.proofs.StepSends.{call_posts}
use Rattle.tx_step.specs.InWay.{IsOfMember}
use Rattle.tx_step.specs.Roles.{role_as}
use Rattle.tx_step.specs.Ways.{ConcernsItself, SendsNothing, held_at_commit}
use Rattle.tx_step.specs.declared.roles.StepRole.{StepRole}
use Rattle.tx_step.specs.declared.roles.StepRole.TheVariants as step
use Rattle.tx_laws.specs.TwoStates.{states_view}
use Rattle.tx_content.specs.Content.{content_of, now_of, view_of}
use Rattle.tx_content.specs.Insides.{IsFootprint}
use Rattle.tx_content.specs.Made.{IsRunning}
use Rattle.tx_content.specs.declared.content.Content.{Content}
use Rattle.tx_model.specs.Events.{Event, effect}
use Rattle.tx_model.specs.Footprints.{call_row_at, footprint}
use Rattle.tx_model.specs.Membership.{Table, event_in, inside_by, kind_event}
use Rattle.tx_model.specs.Words.{kind_of}
use Rattle.tx_model.specs.State.{Object, Proc, Process, has_object, same_object}
use Rattle.tx_model.specs.View.{event_on, starter_in_way, role_on}
use Rattle.tx_proc.specs.Parts.{process_in, process_of}
use Rattle.tx_proc.specs.declared.proc.Proc.{Proc as TheProc}
use Rattle.tx_reserve.specs.Footprints.{IsSetOf, table_of}
use Rattle.tx_reserve.specs.Objects.{is_in, is_small, place_of}
use Rattle.tx_reserve.specs.Reservations.{IsLeast, lesser_of, number_of, owner_of, unless}
use Rattle.tx_reserve.specs.declared.objects.Objects.{Objects}
use Rattle.tx_txn.specs.Content.{IsKept}
use Rattle.tx_txn.specs.Laws.{StarterInWayIsOfFaces}
use Rattle.tx_txn.specs.Marks.{table_at}

-- one process was put into an empty set
pub set_alone : (before set : Objects) (p : ℕ) → ((o : Object) → is_in before o ≡ false) →
    ((o : Object) → is_in set o ≡ (if same_object o (Proc p) then is_small o else is_in before o)) → IsSetOf set (Proc p ∷ [])
unfolding has_object
set_alone before set p empty put = record {
  each = λ o. put o ∙ ap (λ (was : Bool). if same_object o (Proc p) then is_small o else was) (empty o) ∙ by (same_object o (Proc p)) (is_small o);
}
  where
    by : (same small : Bool) → (if same then small else false) ≡ (if small then (if same then true else false) else false)
    by true true = refl
    by true false = refl
    by false true = refl
    by false false = refl

-- what is in such a set is that process
alone_is : (set : Objects) (p : ℕ) (o : Object) → IsSetOf set (Proc p ∷ []) → is_in set o ≡ true → o ≡ Proc p
unfolding has_object
alone_is set p o is there = by (is_small o) (same_object o (Proc p)) refl (sym (is.each o) ∙ there)
  where
    by : (small same : Bool) → same_object o (Proc p) ≡ same → (if small then (if same then true else false) else false) ≡ true → o ≡ Proc p
    by true true e h = same_is o (Proc p) e
    by true false e h = cc
    by false same e h = cc

-- a process that somebody owns may be in a set
owned_small : (owners : List (Option Pid)) (o : Object) (own : Option ℕ) (s : ℕ) → unless own (owner_of owners o) ≡ Some s → is_small o ≡ true
unfolding owner_of
owned_small owners o own s h = by (is_small o) refl h
  where
    by : (b : Bool) → is_small o ≡ b → unless own (if b then option_map number_of (slice_index_or owners (place_of o) None) else None) ≡ Some s → b ≡ true
    by true e h = refl
    by false e h = cc

alone_in : (set : Objects) (p : ℕ) → IsSetOf set (Proc p ∷ []) → is_small (Proc p) ≡ true → is_in set (Proc p) ≡ true
unfolding has_object
alone_in set p is small = is.each (Proc p) ∙ rw (small, same_self (Proc p)) refl

-- its owner is the least one
alone_least : (owners : List (Option Pid)) (own : Option ℕ) (set : Objects) (p : ℕ) → IsSetOf set (Proc p ∷ []) → (x : Option ℕ) → x ≡ unless own (owner_of owners (Proc p)) →
    IsLeast (is_in set) (λ o. unless own (owner_of owners o)) x
alone_least owners own set p is None none = λ o there. ap (λ (q : Object). unless own (owner_of owners q)) (alone_is set p o is there) ∙ sym none
alone_least owners own set p is (Some s) some = record {
  at = Proc p;
  among = alone_in set p is (owned_small owners (Proc p) own s (sym some));
  has = sym some;
  least = λ o t there owned.
      let same : Some s ≡ Some t = some ∙ ap (λ (q : Object). unless own (owner_of owners q)) (sym (alone_is set p o is there)) ∙ owned in
      let e : s ≡ t = cc in omega (arith, e);
}

lesser_alone : (x : Option ℕ) → x ≡ lesser_of x None
lesser_alone None = refl
lesser_alone (Some s) = refl

-- the owner of the process is in the way
pub starter_in_way_alone : (k : Content) (kept : IsKept (content_of k)) (own : Option ℕ) (set : Objects) (p : ℕ) → IsSetOf set (Proc p ∷ []) → (event : Event) → IsFootprint k event set →
    (effect event (now_of k)).sends ≡ [] → IsOfMember k own event → StarterInWayIsOfFaces → (x : Option ℕ) → x ≡ unless own (owner_of k.owners (Proc p)) → x ≡ starter_in_way (view_of k) event
starter_in_way_alone k kept own set p is event is_footprint quiet mine law x owner =
    lesser_alone x ∙ starter_in_way_is k kept own set [] event is_footprint quiet mine law x None (alone_least k.owners own set p is x owner) refl

-- a call that concerns its process alone names that one
pub own_set : (k : Content) (pid : Pid) (called : Call) (set : Objects) → ConcernsItself called → IsSetOf set (Proc pid.0 ∷ []) → IsSetOf set (footprint (table_of k.parts k.marks) (Calls pid called) (now_of k))
unfolding footprint
own_set k pid called set itself is = by ((now_of k).procs pid.0)
  where
    by : (x : Option Process) → IsSetOf set (Proc pid.0 ∷ call_row_at (table_of k.parts k.marks) pid.0 called x (now_of k))
    by None = is
    by (Some me) = subst (λ (os : List Object). IsSetOf set (Proc pid.0 ∷ os)) (sym (itself.names (table_of k.parts k.marks) pid.0 me (now_of k))) is

-- where it commits nothing, nothing that is held goes with it
pub quiet_last : (k : Content) (role : StepRole) → ((starter : Pid) → role ≡ step.Commits starter → ⊥) → None ≡ held_at_commit k role
quiet_last k step.Outside other = refl
quiet_last k (step.Begins defers) other = refl
quiet_last k (step.Inside starter progress) other = refl
quiet_last k (step.Commits starter) other = absurd (other starter refl)
quiet_last k (step.Aborts starter) other = refl

-- the event of a call that sends nothing, where it commits nothing, sends nothing
pub quiet_event : (k : Content) (pid : Pid) (called : Call) (role : StepRole) → SendsNothing called → IsRunning (slot_at k.parts.procs pid.0) →
    ((starter : Pid) → role ≡ step.Commits starter → ⊥) → role_as pid.0 role ≡ role_on (view_of k) (Calls pid called) →
    (effect (event_on (view_of k) (Calls pid called)) (now_of k)).sends ≡ []
unfolding view_of states_view
quiet_event k pid called role quiet running other is =
    let t : Table = table_at k.marks in
    let mark : Option Mark = slot_at k.marks pid.0 in
    ap (λ r. (effect (event_in r (kind_event t pid.0 (Calls pid called) (kind_of called) mark)) (now_of k)).sends) (sym is)
    ∙ by role other ∙ at (slot_at k.parts.procs pid.0) refl running
  where
    at : (slot : Option TheProc) → slot_at k.parts.procs pid.0 ≡ slot → IsRunning slot →
        (effect (kind_event (table_at k.marks) pid.0 (Calls pid called) (kind_of called) (slot_at k.marks pid.0)) (now_of k)).sends ≡ []
    at None e runs = absurd runs
    at (Some proc) e runs =
        let posts = call_posts (table_at k.marks) pid called (slot_at k.marks pid.0) (now_of k) (process_of proc) (ap process_in e) runs in
        posts.sends ∙ quiet (inside_by (table_at k.marks) (slot_at k.marks pid.0)) pid.0 (process_of proc) (now_of k)

    by : (role : StepRole) → ((starter : Pid) → role ≡ step.Commits starter → ⊥) →
        (effect (event_in (role_as pid.0 role) (kind_event (table_at k.marks) pid.0 (Calls pid called) (kind_of called) (slot_at k.marks pid.0))) (now_of k)).sends
        ≡ (effect (kind_event (table_at k.marks) pid.0 (Calls pid called) (kind_of called) (slot_at k.marks pid.0)) (now_of k)).sends
    by step.Outside other = refl
    by (step.Begins defers) other = refl
    by (step.Inside starter progress) other = refl
    by (step.Commits starter) other = absurd (other starter refl)
    by (step.Aborts starter) other = refl
