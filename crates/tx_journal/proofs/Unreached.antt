-- What a step leaves of the state as it was.
use Rattle.std.proofs.Common.{◌≡◌, ◌≢◌, ◌⊎◌, ◌==◌, ℕ, Bool, true, false, not, arith, List, [], ◌∷◌, ◌++◌, ◌&&◌, ◌||◌, Option, Some, None, if◌then◌else◌, refl, sym, ap, subst, ◌∙◌, eqb-true, inl, inr, true≢false}
use Rattle.std.proofs.lemmas.Bool.{both_ways}
use Rattle.tx_base.specs.declared.marks.Mark.{Mark}
use Rattle.tx_base.specs.declared.names.Pid.{Pid}
use Rattle.tx_base.specs.declared.names.Signo.{Signo}
use Rattle.tx_base.specs.declared.steps.Call.{Call}
use Rattle.tx_base.specs.declared.steps.Refusal.{Refusal}
use Rattle.tx_base.specs.declared.steps.Refusal.TheVariants.{NoProcess, NotRunning}
use Rattle.tx_base.specs.declared.steps.Reply.{Reply}
use Rattle.tx_base.specs.declared.steps.Step.{Step}
use Rattle.tx_base.specs.declared.steps.Step.TheVariants.{Call as Calls, Deliver}
use Rattle.tx_journal.proofs.OwnNames.{all_targets, alone, is_alike}
use Rattle.tx_journal.specs.Lives.{has_place, starter_by, starter_of}
use Rattle.tx_journal.specs.Reach.{is_given_up, is_named, may_change, own_mark, own_table}
use Rattle.tx_journal.specs.ReachLaws.{ReachLaws}
use Rattle.tx_laws.specs.Fits.{Fits, Passes, HoldsFor}
use Rattle.tx_laws.specs.Footprints.{is_abort, is_shared}
use Rattle.tx_laws.specs.Sound.{IsSound}
use Rattle.tx_model.specs.Answer.{accepted_reply, answer, is_running, is_there, IsAccepted}
use Rattle.tx_model.specs.Events.{Event, Note, actor, after, effect, objects, process_of}
use Rattle.tx_model.specs.History.{event_footprint, is_left_in, left_out_before, nobody, targets}
use Rattle.tx_model.specs.Membership.{Kind, Role, Outside, Within, Continues, Parks, Forks, Begins, Commits, Aborts, Table, event_in, is_member_of, is_of, kind_event, mark_unless_of, marks_after, new_mark, defers_in, parked_mark}
use Rattle.tx_model.specs.ObjectFacts.{has_either, has_left, same_is}
use Rattle.tx_model.specs.State.{Object, Proc, Held, Sending, State, has_object, same_object}
use Rattle.tx_model.specs.StateLaws.{EqualAt}
use Rattle.tx_model.specs.View.{View, event_on, next, present, role_on}
use Rattle.tx_model.specs.Words.{kind_role, processes_of, unless_refused}

-- the process of an accepted step runs
runs_if : (there runs : Bool) (rest : Option Refusal) (reply : Reply) → IsAccepted (unless_refused (if not there then Some NoProcess else (if not runs then Some NotRunning else rest)) reply) → runs ≡ true
runs_if there runs rest reply h = grind arith

call_runs : (V : View) (p : Pid) (c : Call) → IsAccepted (answer V (Calls p c)) → is_running ((present V).procs p.0) ≡ true
unfolding answer
call_runs V p c h = runs_if (is_there V p.0) (is_running ((present V).procs p.0)) _ (accepted_reply V (Calls p c)) h

delivery_runs : (V : View) (p : Pid) (signo : Signo) → IsAccepted (answer V (Deliver p signo)) → is_running ((present V).procs p.0) ≡ true
unfolding answer
delivery_runs V p signo h = runs_if (is_there V p.0) (is_running ((present V).procs p.0)) _ (accepted_reply V (Deliver p signo)) h

-- who makes the event of a step that is no abort
actor_in : (r : Role) (ev : Event) → actor (event_in r ev) ≡ actor ev
actor_in r ev = grind arith

kind_actor : (t : Table) (p : ℕ) (step : Step) (kind : Kind) (r : Reply) (mark : Option Mark) → process_of step ≡ p → is_abort (kind_role t p kind r mark) ≡ false → actor (kind_event t p step kind mark) ≡ p
kind_actor t p step kind r mark own h = grind arith

-- a step is of the transaction of its starter, if it is of one
abbrev IsOf : ℕ → Role → Type 0
IsOf s Outside = Unit {0}
IsOf s (Within u part) = u ≡ s
IsOf s (Commits u) = u ≡ s
IsOf s (Aborts u k) = u ≡ s

step_starter : (V : View) (step : Step) → IsOf (starter_of V.table step) (role_on V step)
step_starter V step = grind arith

-- what aborts is the kernel's abort, or a member's
abort_place : (V : View) (step : Step) → is_abort (role_on V step) ≡ true → has_place V.table step ≡ true
abort_place V step h = grind arith

equal_trans : (R S T : State) (o : Object) → EqualAt R S o → EqualAt S T o → EqualAt R T o
equal_trans R S T o a b = grind arith

-- no abort is made on the state as it is
made_on : (V : View) (r : Role) (ev : Event) → is_abort r ≡ false → (if is_left_in r nobody then after ev (V.without (left_out_before r nobody)) else V.without (left_out_before r nobody)) ≡ after ev (present V)
made_on V r ev h = grind arith

next_on : (V : View) (step : Step) → is_abort (role_on V step) ≡ false → present (next V step) ≡ after (event_on V step) (present V)
unfolding next
next_on V step h = made_on V (role_on V step) (event_on V step) h

-- an abort on the state without its transaction
abbrev only : ℕ → ℕ → Bool
only s n = if n == s then true else false

next_after : (V : View) (step : Step) (s k : ℕ) (ev : Event) → role_on V step ≡ Aborts s k → event_on V step ≡ ev → present (next V step) ≡ after ev (V.without (only s))
unfolding next
next_after V step s k ev is same = grind arith

either_false : (a b : Bool) → (a || b) ≡ false → (a ≡ false) × (b ≡ false)
either_false a b h = grind arith

module _ (laws : ReachLaws) (V : View) (step : Step) (sound : IsSound V) (accepted : IsAccepted (answer V step)) where
  abbrev s : ℕ
  s = starter_of V.table step

  abbrev ev : Event
  ev = event_on V step

  abbrev S : State
  S = present V

  -- an abort leaves what its transaction has not reserved
  abort_leaves : (u k : ℕ) → role_on V step ≡ Aborts u k → (o : Object) → V.reserved u o ≡ false → EqualAt (present (next V step)) S o
  unfolding objects effect has_object
  abort_leaves u k is o free =
      let fit = subst (λ (r : Role). Fits r ev (process_of step) V) is (laws.fits V step sound accepted).1 in
      let own : V.reserved u (Proc u) ≡ true = sound.own_procs u u fit.0 in
      let other : same_object o (Proc u) ≡ false = by_same o own free in
      let there : State = V.without (only u) in
      subst (λ (T : State). EqualAt T S o) (sym (next_after V step u k (Note u fit.1.0) is fit.1.1))
      (equal_trans (after (Note u fit.1.0) there) there S o
      (laws.stay (Note u fit.1.0) there o (ap (λ (b : Bool). if b then true else false) other))
      (sound.coherent (only u) nobody o (λ w reserved. by_owner w reserved)).equal)
    where
      by_same : (o : Object) → V.reserved u (Proc u) ≡ true → V.reserved u o ≡ false → same_object o (Proc u) ≡ false
      by_same o own free = by (same_object o (Proc u)) refl
        where
          by : (b : Bool) → same_object o (Proc u) ≡ b → b ≡ false
          by true same = absurd (both_ways (V.reserved u o) free (ap (V.reserved u) (same_is o (Proc u) same) ∙ own))
          by false same = refl

      by_owner : (w : ℕ) → V.reserved w o ≡ true → only u w ≡ false
      by_owner w reserved = by (w == u) refl
        where
          by : (b : Bool) → (w == u) ≡ b → (if b then true else false) ≡ false
          by true same = absurd (both_ways (V.reserved u o) free (subst (λ (n : ℕ). V.reserved n o ≡ true) (eqb-true w u same) reserved))
          by false other = refl

  -- another step leaves what it does not name, and sends nothing to
  others_named : (p : ℕ) → process_of step ≡ p → s ≡ starter_by p (V.table.marks p) → is_running (S.procs (process_of step)) ≡ true → actor ev ≡ p → is_abort (role_on V step) ≡ false → (o : Object) → is_shared o ≡ true →
      is_named V step o ≡ has_object o (objects ev S ++ processes_of (effect ev S).sends)
  unfolding event_footprint
  others_named p own at runs made no_abort o shared =
      let alike = is_alike V step in
      laws.named (alone V step) step o runs (ap is_abort alike.role ∙ no_abort) shared
      ∙ ap (λ (e : Event). has_object o (objects e S ++ targets (own_table s V.table) (actor e) (effect e S).sends)) alike.event
      ∙ ap (λ (q : ℕ). has_object o (objects ev S ++ targets (own_table s V.table) q (effect ev S).sends)) made
      ∙ ap (λ (u : ℕ). has_object o (objects ev S ++ targets (own_table u V.table) p (effect ev S).sends)) at
      ∙ ap (λ (os : List Object). has_object o (objects ev S ++ os)) (all_targets V.table p (effect ev S).sends)

  named_stays : (p : ℕ) → process_of step ≡ p → s ≡ starter_by p (V.table.marks p) → is_running (S.procs (process_of step)) ≡ true → actor ev ≡ p → is_abort (role_on V step) ≡ false → (o : Object) → is_shared o ≡ true →
      is_named V step o ≡ false → EqualAt (present (next V step)) S o
  named_stays p own at runs made no_abort o shared unnamed = grind (arith, next_on, others_named)

-- a step leaves every object as it was that it may not change
module _ (laws : ReachLaws) where
  plain_stays : (V : View) (step : Step) (sound : IsSound V) (accepted : IsAccepted (answer V step)) → is_abort (role_on V step) ≡ false → (o : Object) → is_shared o ≡ true → is_named V step o ≡ false →
      EqualAt (present (next V step)) (present V) o
  plain_stays V step sound accepted no_abort o shared unnamed = grind (arith, actor_in, call_runs, delivery_runs, kind_actor, named_stays, true≢false)

  pub objects_stay : (V : View) (step : Step) (o : Object) → IsSound V → IsAccepted (answer V step) → is_shared o ≡ true → may_change V step o ≡ false → EqualAt (present (next V step)) (present V) o
  objects_stay V step o sound accepted shared unchanged = by (role_on V step) refl
    where
      apart : (is_named V step o ≡ false) × (is_given_up V step o ≡ false)
      apart = either_false (is_named V step o) (is_given_up V step o) unchanged

      kept : (u k : ℕ) → role_on V step ≡ Aborts u k → V.reserved u o ≡ false
      kept u k is =
          let place : has_place V.table step ≡ true = abort_place V step (ap is_abort is) in
          let same : u ≡ starter_of V.table step = subst (IsOf (starter_of V.table step)) is (step_starter V step) in
          ap (λ (n : ℕ). V.reserved n o) same
          ∙ ap (λ (b : Bool). b && V.reserved (starter_of V.table step) o) (sym place)
          ∙ apart.1

      by : (r : Role) → role_on V step ≡ r → EqualAt (present (next V step)) (present V) o
      by Outside is = plain_stays V step sound accepted (ap is_abort is) o shared apart.0
      by (Within u part) is = plain_stays V step sound accepted (ap is_abort is) o shared apart.0
      by (Commits u) is = plain_stays V step sound accepted (ap is_abort is) o shared apart.0
      by (Aborts u k) is = abort_leaves laws V step sound accepted u k is o (kept u k is)

-- a mark that is none of s
none_own : (s : ℕ) (mark : Option Mark) → is_of s mark ≡ false → own_mark s mark ≡ None
none_own s mark h = grind arith

not_both : (s u : ℕ) (mark : Option Mark) → u ≢ s → is_of u mark ≡ true → is_of s mark ≡ false
not_both s u mark other h = grind arith

new_other : (s u : ℕ) (defers : Bool) → u ≢ s → own_mark s (Some (new_mark u defers)) ≡ None
new_other s u defers other = grind arith

parked_other : (s : ℕ) (mark : Option Mark) → is_of s mark ≡ false → own_mark s (parked_mark mark) ≡ own_mark s mark
parked_other s mark h = grind arith

unmarked_other : (s u : ℕ) (mark : Option Mark) → u ≢ s → own_mark s (mark_unless_of u mark) ≡ own_mark s mark
unmarked_other s u mark other = grind arith

put_other : (s k : ℕ) (marks : ℕ → Option Mark) (mark : Option Mark) → own_mark s mark ≡ own_mark s (marks k) → (n : ℕ) → own_mark s (if n == k then mark else marks n) ≡ own_mark s (marks n)
put_other s k marks mark same n = grind arith

-- the step is of no transaction of s
abbrev IsApart : ℕ → Role → Type 0
IsApart s Outside = Unit {0}
IsApart s (Within u part) = u ≢ s
IsApart s (Commits u) = u ≢ s
IsApart s (Aborts u k) = u ≢ s

-- the marks of another transaction stay
marks_stay : (laws : ReachLaws) (V : View) (made : Event) (p s : ℕ) (r : Role) → IsSound V → Passes r made V → Fits r made p V → IsApart s r → (n : ℕ) → own_mark s (marks_after r p V.table.marks n) ≡ own_mark s (V.table.marks n)
unfolding event_footprint
marks_stay laws V made p s Outside sound clear fit other n = refl
marks_stay laws V made p s (Within u Continues) sound clear fit other n = refl
marks_stay laws V made p s (Within u Parks) sound clear fit other n =
    put_other s p V.table.marks (parked_mark (V.table.marks p)) (parked_other s (V.table.marks p) (not_both s u (V.table.marks p) other fit.progress_fits)) n
marks_stay laws V made p s (Within u (Forks c)) sound clear fit other n =
    put_other s c V.table.marks (Some (new_mark u (defers_in (V.table.marks u)))) (new_other s u (defers_in (V.table.marks u)) other ∙ sym (none_own s (V.table.marks c) (no_child (is_of s (V.table.marks c)) refl))) n
  where
    no_child : (b : Bool) → is_of s (V.table.marks c) ≡ b → b ≡ false
    no_child true member =
        let its : is_member_of V.table s (actor made) ≡ true =
        laws.clear V made (Proc c) s sound clear (has_left (Proc c) (objects made (present V)) (targets V.table (actor made) (effect made (present V)).sends) fit.progress_fits.1) (sound.own_procs s c member) in
        absurd (other (sym (fit.mine s (subst (λ (q : ℕ). is_member_of V.table s q ≡ true) fit.actor_is its))))
    no_child false none = refl
marks_stay laws V made p s (Within u (Begins defers)) sound clear fit other n =
    put_other s u V.table.marks (Some (new_mark u defers)) (new_other s u defers other ∙ sym (ap (own_mark s) (ap V.table.marks fit.progress_fits.0 ∙ fit.progress_fits.1))) n
marks_stay laws V made p s (Commits u) sound clear fit other n = unmarked_other s u (V.table.marks n) other
marks_stay laws V made p s (Aborts u k) sound clear fit other n = unmarked_other s u (V.table.marks n) other

-- what is sent is held by nobody
held_sent : (s : ℕ) (ms : List Sending) → has_object (Held s) (processes_of ms) ≡ true → ⊥
unfolding has_object
held_sent s [] h = cc
held_sent s (m ∷ ms) h = held_sent s ms h

-- an event of a step holds for its own transaction alone
kind_holds : (s : ℕ) (t : Table) (p : ℕ) (step : Step) (kind : Kind) (mark : Option Mark) → HoldsFor s (kind_event t p step kind mark) → s ≡ starter_by p mark
kind_holds s t p step kind mark h = grind arith

role_holds : (s own : ℕ) (r : Role) (made : Event) → IsOf own r → (HoldsFor s made → s ≡ own) → HoldsFor s (event_in r made) → s ≡ own
role_holds s own r made of its h = grind arith

step_holds : (V : View) (step : Step) (s : ℕ) → HoldsFor s (event_on V step) → s ≡ starter_of V.table step
step_holds V step s h = grind (arith, kind_holds, role_holds, step_starter)

-- and every other transaction: the marks of its members, and what it holds
module _ (laws : ReachLaws) (V : View) (step : Step) (s : ℕ) (sound : IsSound V) (accepted : IsAccepted (answer V step)) (other : s ≢ starter_of V.table step) where
  abbrev it : Event
  it = event_on V step

  held_plain : is_abort (role_on V step) ≡ false → (present (next V step)).held s ≡ (present V).held s
  held_plain no_abort =
      ap (λ (T : State). T.held s) (next_on V step no_abort)
      ∙ laws.stay it (present V) (Held s) (by (has_object (Held s) (objects it (present V) ++ processes_of (effect it (present V)).sends)) refl)
    where
      named : (has_object (Held s) (objects it (present V)) ≡ true) ⊎ (has_object (Held s) (processes_of (effect it (present V)).sends) ≡ true) → ⊥
      named (inl here) = other (step_holds V step s (laws.holds it (present V) s here))
      named (inr sent) = held_sent s (effect it (present V)).sends sent

      by : (b : Bool) → has_object (Held s) (objects it (present V) ++ processes_of (effect it (present V)).sends) ≡ b → b ≡ false
      by true has = absurd (named (has_either (Held s) (objects it (present V)) (processes_of (effect it (present V)).sends) has))
      by false has = refl

  pub held_stays : (present (next V step)).held s ≡ (present V).held s
  held_stays = by (role_on V step) refl
    where
      free : (u : ℕ) → u ≡ starter_of V.table step → (b : Bool) → V.reserved u (Held s) ≡ b → b ≡ false
      free u own true reserved = absurd (other (sym (sound.held_own u s reserved) ∙ own))
      free u own false reserved = refl

      by : (r : Role) → role_on V step ≡ r → (present (next V step)).held s ≡ (present V).held s
      by Outside is = held_plain (ap is_abort is)
      by (Within u part) is = held_plain (ap is_abort is)
      by (Commits u) is = held_plain (ap is_abort is)
      by (Aborts u k) is =
          abort_leaves laws V step sound accepted u k is (Held s)
          (free u (subst (IsOf (starter_of V.table step)) is (step_starter V step)) (V.reserved u (Held s)) refl)

  pub marks_there : (n : ℕ) → own_mark s ((next V step).table.marks n) ≡ own_mark s (V.table.marks n)
  unfolding next
  marks_there n = grind (arith, marks_stay, step_starter)
