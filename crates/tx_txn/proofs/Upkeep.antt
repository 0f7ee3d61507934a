-- What is so of every content is so of the next.
use Rattle.std.proofs.Common.{◌≡◌, ℕ, Bool, true, false, List, [], ℤ, Option, Some, None, is_some, is_none, if◌then◌else◌, ◌==◌, refl, sym, ap, ◌∙◌, subst, inl, inr, eqb-true, eq-eqb}
use Rattle.std.proofs.lemmas.Bool.{both_ways}
use Rattle.tx_base.specs.declared.steps.Step.{Step}
use Rattle.tx_change.specs.declared.change.Change.{Change}
use Rattle.tx_laws.specs.Fits.{FitsWithin, Fits, Passes}
use Rattle.tx_laws.specs.Sound.{IsSound}
use Rattle.tx_laws.specs.TwoStates.{in_set, is_owner, states_without, states_view}
use Rattle.tx_model.specs.Answer.{answer, is_running, IsAccepted}
use Rattle.tx_model.specs.Events.{Event, Note, process_of, actor, effect, objects}
use Rattle.tx_model.specs.History.{just, targets, event_footprint, objects_reserved}
use Rattle.tx_model.specs.Membership.{Progress, Role, Outside, Within, Commits, Aborts, is_live, table_after}
use Rattle.tx_model.specs.ObjectFacts.{has_left}
use Rattle.tx_model.specs.State.{Ids, Process, State, Sending, Object, Proc, Held, put_at, has_object}
use Rattle.tx_model.specs.View.{View, next, role_on, event_on}
use Rattle.tx_model.specs.Words.{IsClear}
use Rattle.tx_txn.specs.Content.{Txn, LogKernel, kept_of, two_states_of, is_named, IsKept, OthersHoldNothing}
use Rattle.tx_txn.specs.Faces.{face_of, running}
use Rattle.tx_txn.specs.Laws.{RoleLaws}
use Rattle.tx_txn.specs.Steps.{ids_in, posted, logged, next_content, Logs, IsNext}
use Rattle.tx_txn.proofs.Facts.{pick_true, in_just, reserved_foot, owner_true, freed_else, of_other, of_unmarked}
use Rattle.tx_txn.proofs.OfLogs.{named_append}
use Rattle.tx_txn.proofs.Owned.{live_txn, live_of, txn_of, own_proc, made_face, posted_face, own_reserved}
use Rattle.tx_txn.proofs.Roles.{outside_kept, commits_kept, aborts_kept, keeps_now, keeps_old, within_kept, next_view}

some_posted : (s : ℕ) (ms : List Sending) (x : Option Txn) → is_some (posted s ms x) ≡ is_some x
some_posted s ms None = refl
some_posted s ms (Some t) = refl

-- the transaction in which sends were posted has the log and the ids that were there
was_posted : (s : ℕ) (ms : List Sending) (x : Option Txn) (t : Txn) → posted s ms x ≡ Some t → (y : Txn) × (x ≡ Some y) × (y.log ≡ t.log) × (y.ids ≡ t.ids)
was_posted s ms None t h = cc
was_posted s ms (Some y) t h = (y, refl, ap (λ (z : Option Txn). (or_this z).log) h, ap (λ (z : Option Txn). (or_this z).ids) h)
  where
    or_this : Option Txn → Txn
    or_this None = y
    or_this (Some x) = x

-- a transaction that is live when another one is over was so before
was_live : (s t : ℕ) (f : ℕ → Option Txn) (x : Txn) → put_at f s None t ≡ Some x → ((t == s) ≡ false) × (f t ≡ Some x)
was_live s t f x h = by (t == s) refl h
  where
    by : (b : Bool) → (t == s) ≡ b → (if b then None else f t) ≡ Some x → ((t == s) ≡ false) × (f t ≡ Some x)
    by true e k = cc
    by false e k = (e, k)

-- what a step inside the transaction of s reserved, it reserved
reserved_new : (s : ℕ) (b c : Bool) → b ≡ true → (if s == s then (if b then true else c) else c) ≡ true
reserved_new s b c h = rw (eq-eqb s s refl, h) refl

reserved_old : (t s : ℕ) (b c : Bool) → c ≡ true → (if t == s then (if b then true else c) else c) ≡ true
reserved_old t s b c h = by (t == s) b
  where
    by : (a b : Bool) → (if a then (if b then true else c) else c) ≡ true
    by true true = refl
    by true false = h
    by false b = h

-- a process that runs has the face of one
runs_face : (x : Option Process) → is_running x ≡ true → face_of x ≡ Some (running (ids_in x))
runs_face None h = cc
runs_face (Some q) h = by q.status h
  where
    by : (y : Option ℕ) → is_none y ≡ true → Some (record { ids = q.ids; ended = is_some y }) ≡ Some (running q.ids)
    by None e = refl
    by (Some n) e = cc

-- on the kept side the starter of a live transaction runs
start_runs : (c : LogKernel) → IsSound (states_view (two_states_of c)) → (s : ℕ) → is_live c.table s ≡ true → is_running ((kept_of c).procs s) ≡ true
unfolding states_view
start_runs c sound s live =
    subst (λ (x : Option Process). is_running x ≡ true)
    (pick_true (λ o. in_set (just s) (c.owner o)) (kept_of c) c.now (Proc s) (in_just s (c.owner (Proc s)) (owner_true s (c.owner (Proc s)) (sound.own_procs s s live))))
    (sound.starter_runs s live)

off_note : (s : ℕ) (r : ℤ) (u : ℕ) (S : State) → (u == s) ≡ false → has_object (Proc u) (objects (Note s r) S) ≡ false
unfolding objects has_object
off_note s r u S e = rw e refl

module _ (laws : RoleLaws) (c : LogKernel) (k : IsKept c) where
  over_live : (s u : ℕ) → is_some (put_at c.txns s None u) ≡ is_live (table_after (Commits s) u c.table) u
  over_live s u = by (u == s) ∙ sym (of_unmarked u s (c.table.marks u))
    where
      by : (b : Bool) → is_some (if b then None else c.txns u) ≡ (if b then false else is_live c.table u)
      by true = refl
      by false = k.live u

  next_sound : (r : Role) (ev : Event) (p : ℕ) (new : List Change) → Passes r ev (states_view (two_states_of c)) → Fits r ev p (states_view (two_states_of c)) → Logs r ev new c
      → IsSound (states_view (two_states_of (next_content r ev p new c)))
  next_sound r ev p new clear fits logs =
      subst IsSound (sym (next_view laws c k r ev p new clear fits logs)) (laws.sound r ev p (states_view (two_states_of c)) k.sound clear fits)

  -- a step inside the transaction of s
  module _ (ev : Event) (s : ℕ) (part : Progress) (p : ℕ) (new : List Change)
      (clear : IsClear (states_view (two_states_of c)) ev) (fits : FitsWithin s part ev p (states_view (two_states_of c))) (logs : Logs (Within s part) ev new c) where
    abbrev F : List Object
    F = objects_reserved part s (event_footprint c.table ev c.now)

    abbrev C : LogKernel
    C = next_content (Within s part) ev p new c

    sound : IsSound (states_view (two_states_of C))
    sound = next_sound (Within s part) ev p new clear fits logs

    -- what is reserved is its own then, and what anyone owned is still owned by the same
    own_new : (o : Object) → has_object o F ≡ true → C.owner o ≡ Some s
    unfolding next_content
    own_new o h = rw h refl

    own_old : (o : Object) (u : ℕ) → c.owner o ≡ Some u → C.owner o ≡ Some u
    unfolding next_content
    own_old o u i = by (has_object o F) refl
      where
        by : (b : Bool) → has_object o F ≡ b → (if b then Some s else c.owner o) ≡ Some u
        by true e = ap Some (sym (own_reserved laws c k ev clear s part p fits o u e i))
        by false e = i

    live_by : (o : Object) (u : ℕ) → C.owner o ≡ Some u → is_live (table_after (Within s part) p c.table) u ≡ true
    unfolding states_view next_content
    live_by o u i = sound.owned_live u o (rw i (eq-eqb u u refl))

    live_new : is_live (table_after (Within s part) p c.table) s ≡ true
    unfolding event_footprint
    live_new = live_by (Proc (actor ev)) s (own_new (Proc (actor ev)) (reserved_foot part s (event_footprint c.table ev c.now) (Proc (actor ev))
        (has_left (Proc (actor ev)) (objects ev c.now) (targets c.table (actor ev) (effect ev c.now).sends) (laws.actor ev c.now))))

    own_start : C.owner (Proc s) ≡ Some s
    unfolding states_view next_content
    own_start = owner_true s (C.owner (Proc s)) (sound.own_procs s s live_new)

    live_else : (u : ℕ) → (u == s) ≡ false → is_live c.table u ≡ is_live (table_after (Within s part) p c.table) u
    unfolding states_view next_content
    live_else u n = by (is_live c.table u) (is_live (table_after (Within s part) p c.table) u) refl refl
      where
        was_own : is_owner u (C.owner (Held u)) ≡ true → c.owner (Held u) ≡ Some u
        was_own i = of (has_object (Held u) F) (owner_true u (C.owner (Held u)) i)
          where
            of : (b : Bool) → (if b then Some s else c.owner (Held u)) ≡ Some u → c.owner (Held u) ≡ Some u
            of true j = let z : s ≡ u = cc in absurd (both_ways (u == s) n (eq-eqb u s (sym z)))
            of false j = j

        by : (a b : Bool) → is_live c.table u ≡ a → is_live (table_after (Within s part) p c.table) u ≡ b → a ≡ b
        by true true h j = refl
        by false false h j = refl
        by true false h j =
            absurd (both_ways (is_live (table_after (Within s part) p c.table) u) j (live_by (Proc u) u (own_old (Proc u) u (own_proc c k u h))))
        by false true h j =
            absurd (both_ways (is_live c.table u) h (live_of c k u (Held u) (was_own (sound.own_held u j))))

    within_live : (u : ℕ) → is_some (put_at c.txns s (logged new (c.now.procs s) (c.txns s)) u) ≡ is_live (table_after (Within s part) p c.table) u
    within_live u = by (u == s) refl
      where
        is_logged : (y : Option Txn) → is_some (logged new (c.now.procs s) y) ≡ true
        is_logged None = refl
        is_logged (Some x) = refl

        by : (b : Bool) → (u == s) ≡ b → is_some (if b then logged new (c.now.procs s) (c.txns s) else c.txns u) ≡ is_live (table_after (Within s part) p c.table) u
        by true e = is_logged (c.txns s) ∙ sym live_new ∙ ap (is_live (table_after (Within s part) p c.table)) (sym (eqb-true u s e))
        by false e = k.live u ∙ live_else u e

    within_named : (u : ℕ) (t : Txn) → put_at c.txns s (logged new (c.now.procs s) (c.txns s)) u ≡ Some t → (o : Object) → is_named o t.log ≡ true → C.owner o ≡ Some u
    within_named u t h o n = by (u == s) refl h
      where
        log_in : Option Txn → List Change
        log_in None = []
        log_in (Some x) = x.log

        of_new : u ≡ s → is_named o new ≡ true → C.owner o ≡ Some u
        of_new z i = own_new o (logs.named o i) ∙ ap Some (sym z)

        mine : u ≡ s → (y : Option Txn) → c.txns s ≡ y → logged new (c.now.procs s) y ≡ Some t → C.owner o ≡ Some u
        mine z None e j = of_new z (subst (λ (l : List Change). is_named o l ≡ true) (sym (ap log_in j)) n)
        mine z (Some x) e j = elim (named_append o new x.log (subst (λ (l : List Change). is_named o l ≡ true) (sym (ap log_in j)) n)) [
          | inl i ↦ of_new z i
          | inr i ↦ own_old o u (k.named s x e o i ∙ ap Some (sym z))
        ]

        by : (b : Bool) → (u == s) ≡ b → (if b then logged new (c.now.procs s) (c.txns s) else c.txns u) ≡ Some t → C.owner o ≡ Some u
        by true e j = mine (eqb-true u s e) (c.txns s) refl j
        by false e j = own_old o u (k.named u t j o n)

    -- on the kept side, what had an owner is as it was, and what had none as it is now
    kept_old : (u : ℕ) → c.owner (Proc u) ≡ Some u → (kept_of C).procs u ≡ (kept_of c).procs u
    unfolding next_content
    kept_old u i = within_kept laws c k ev s part p new clear fits logs (Proc u) u (own_old (Proc u) u i) ∙ sym (keeps_old laws c k ev s part p new clear fits logs (Proc u) u i)

    within_starter : (u : ℕ) (t : Txn) → put_at c.txns s (logged new (c.now.procs s) (c.txns s)) u ≡ Some t → face_of ((kept_of C).procs u) ≡ Some (running t.ids)
    unfolding next_content
    within_starter u t h = by (u == s) refl h
      where
        ids_of : Option Txn → Ids
        ids_of None = ids_in None
        ids_of (Some x) = x.ids

        unowned : c.txns s ≡ None → (v : ℕ) → has_object (Proc s) F ≡ true → c.owner (Proc s) ≡ Some v → ⊥
        unowned e v j i =
            let z : v ≡ s = own_reserved laws c k ev clear s part p fits (Proc s) v j i in
            let x = txn_of c k s (Proc s) (i ∙ ap Some z) in
            let w : None ≡ Some x.0 = sym e ∙ x.1 in cc

        -- it begins: its starter is kept as it is
        begins : c.txns s ≡ None → (kept_of C).procs s ≡ c.now.procs s
        begins e = of (has_object (Proc s) F) refl (c.owner (Proc s)) refl own_start
          where
            of : (b : Bool) → has_object (Proc s) F ≡ b → (y : Option ℕ) → c.owner (Proc s) ≡ y → (if b then Some s else y) ≡ Some s → (kept_of C).procs s ≡ c.now.procs s
            of true j None i g = within_kept laws c k ev s part p new clear fits logs (Proc s) s own_start ∙ sym (keeps_now laws c k ev s part p new clear fits logs (Proc s) j i)
            of true j (Some v) i g = absurd (unowned e v j i)
            of false j y i g = let x = txn_of c k s (Proc s) (i ∙ g) in let w : None ≡ Some x.0 = sym e ∙ x.1 in cc

        mine : (y : Option Txn) → c.txns s ≡ y → logged new (c.now.procs s) y ≡ Some t → face_of ((kept_of C).procs s) ≡ Some (running t.ids)
        mine None e j =
            runs_face ((kept_of C).procs s) (start_runs C sound s live_new)
            ∙ ap (λ (x : Option Process). Some (running (ids_in x))) (begins e)
            ∙ ap (λ (x : Option Txn). Some (running (ids_of x))) j
        mine (Some x) e j = ap face_of (kept_old s (own_proc c k s (live_txn c k s x e))) ∙ k.starter s x e ∙ ap (λ (y : Option Txn). Some (running (ids_of y))) j

        by : (b : Bool) → (u == s) ≡ b → (if b then logged new (c.now.procs s) (c.txns s) else c.txns u) ≡ Some t → face_of ((kept_of C).procs u) ≡ Some (running t.ids)
        by true e j = subst (λ (v : ℕ). face_of ((kept_of C).procs v) ≡ Some (running t.ids)) (sym (eqb-true u s e)) (mine (c.txns s) refl j)
        by false e j = ap face_of (kept_old u (own_proc c k u (live_txn c k u t j))) ∙ k.starter u t j

  live_after : (r : Role) (ev : Event) (p : ℕ) (new : List Change) → Passes r ev (states_view (two_states_of c)) → Fits r ev p (states_view (two_states_of c)) → Logs r ev new c
      → (u : ℕ) → is_some ((next_content r ev p new c).txns u) ≡ is_live (next_content r ev p new c).table u
  unfolding next_content
  live_after Outside ev p new clear fits logs u = some_posted u (effect ev c.now).sends (c.txns u) ∙ k.live u
  live_after (Within s part) ev p new clear fits logs u = within_live ev s part p new clear fits logs u
  live_after (Commits s) ev p new clear fits logs u = some_posted u (effect ev c.now).sends (put_at c.txns s None u) ∙ over_live s u
  live_after (Aborts s status) ev p new clear fits logs u = over_live s u

  named_after : (r : Role) (ev : Event) (p : ℕ) (new : List Change) → Passes r ev (states_view (two_states_of c)) → Fits r ev p (states_view (two_states_of c)) → Logs r ev new c
      → (u : ℕ) (t : Txn) → (next_content r ev p new c).txns u ≡ Some t → (o : Object) → is_named o t.log ≡ true → (next_content r ev p new c).owner o ≡ Some u
  unfolding next_content
  named_after Outside ev p new clear fits logs u t h o n =
      let y = was_posted u (effect ev c.now).sends (c.txns u) t h in k.named u y.0 y.1 o (subst (λ (l : List Change). is_named o l ≡ true) (sym y.2) n)
  named_after (Within s part) ev p new clear fits logs u t h o n = within_named ev s part p new clear fits logs u t h o n
  named_after (Commits s) ev p new clear fits logs u t h o n =
      let y = was_posted u (effect ev c.now).sends (put_at c.txns s None u) t h in
      let z = was_live s u c.txns y.0 y.1 in
      freed_else s u (c.owner o) (k.named u y.0 z.1 o (subst (λ (l : List Change). is_named o l ≡ true) (sym y.2) n)) z.0
  named_after (Aborts s status) ev p new clear fits logs u t h o n =
      let z = was_live s u c.txns t h in freed_else s u (c.owner o) (k.named u t z.1 o n) z.0

  start_own : (u : ℕ) (x : Txn) → c.txns u ≡ Some x → c.owner (Proc u) ≡ Some u
  start_own u x e = own_proc c k u (live_txn c k u x e)

  starter_after : (r : Role) (ev : Event) (p : ℕ) (new : List Change) → Passes r ev (states_view (two_states_of c)) → Fits r ev p (states_view (two_states_of c)) → Logs r ev new c
      → (u : ℕ) (t : Txn) → (next_content r ev p new c).txns u ≡ Some t → face_of ((kept_of (next_content r ev p new c)).procs u) ≡ Some (running t.ids)
  unfolding next_content states_view
  starter_after Outside ev p new clear fits logs u t h =
      let y = was_posted u (effect ev c.now).sends (c.txns u) t h in
      ap face_of (outside_kept laws c k ev p new clear fits (Proc u) u (start_own u y.0 y.1)) ∙ posted_face laws c k ev clear u y.0 y.1 (fits u) ∙ ap (λ i. Some (running i)) y.3
  starter_after (Within s part) ev p new clear fits logs u t h = within_starter ev s part p new clear fits logs u t h
  starter_after (Commits s) ev p new clear fits logs u t h =
      let y = was_posted u (effect ev c.now).sends (put_at c.txns s None u) t h in
      let z = was_live s u c.txns y.0 y.1 in
      ap face_of (commits_kept laws c k ev s p new clear fits (Proc u) u (freed_else s u (c.owner (Proc u)) (start_own u y.0 z.1) z.0))
      ∙ posted_face laws c k ev clear u y.0 z.1 (of_other s u (c.table.marks (actor ev)) fits z.0) ∙ ap (λ i. Some (running i)) y.3
  starter_after (Aborts s status) ev p new clear fits logs u t h =
      subst (λ (x : Event). face_of ((kept_of (next_content (Aborts s status) x p new c)).procs u) ≡ Some (running t.ids)) (sym fits.1.1) (of fits.1.0)
    where
      of : (r : ℤ) → face_of ((kept_of (next_content (Aborts s status) (Note s r) p new c)).procs u) ≡ Some (running t.ids)
      of r =
          let z = was_live s u c.txns t h in
          let W : State = states_without (two_states_of c) (just s) in
          ap face_of (aborts_kept laws c k s status p r new fits.0 (Proc u) u (freed_else s u (c.owner (Proc u)) (start_own u t z.1) z.0))
          ∙ made_face laws (Note s r) W (kept_of c) u (off_note s r u W z.0)
          ∙ k.starter u t z.1

  pub next_kept : (r : Role) (ev : Event) (p : ℕ) (new : List Change) → Passes r ev (states_view (two_states_of c)) → Fits r ev p (states_view (two_states_of c)) → Logs r ev new c
      → OthersHoldNothing (next_content r ev p new c) → IsKept (next_content r ev p new c)
  next_kept r ev p new clear fits logs empty = record {
    live = live_after r ev p new clear fits logs;
    named = named_after r ev p new clear fits logs;
    starter = starter_after r ev p new clear fits logs;
    empty = empty;
    sound = next_sound r ev p new clear fits logs;
  }

  -- an accepted step
  pub next_step : (step : Step) (new : List Change) → IsAccepted (answer (states_view (two_states_of c)) step)
      → Logs (role_on (states_view (two_states_of c)) step) (event_on (states_view (two_states_of c)) step) new c
      → IsNext (next_content (role_on (states_view (two_states_of c)) step) (event_on (states_view (two_states_of c)) step) (process_of step) new c) (next (states_view (two_states_of c)) step)
  unfolding next
  next_step step new a logs =
      let V : View = states_view (two_states_of c) in
      let f : Passes (role_on V step) (event_on V step) V × Fits (role_on V step) (event_on V step) (process_of step) V = laws.fits V step k.sound a in
      record {
        view = next_view laws c k (role_on V step) (event_on V step) (process_of step) new f.0 f.1 logs;
        kept = next_kept (role_on V step) (event_on V step) (process_of step) new f.0 f.1 logs;
      }
