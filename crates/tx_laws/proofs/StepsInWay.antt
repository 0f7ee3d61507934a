-- Who is in the way of a step, by the step's own footprint.
use Rattle.std.proofs.Common.{◌≡◌, ℕ, Bool, true, false, not, List, [], ◌∷◌, Option, Some, None, if◌then◌else◌, pos, refl, sym, ap, ◌∙◌, subst, inl, inr, eq-eqb}
use Rattle.std.proofs.lemmas.Bool.{both_ways, false_from_ne_true}
use Rattle.std.specs.Cmp.{both_ways as same_tests}
use Rattle.tx_base.specs.declared.marks.Mark.{Mark}
use Rattle.tx_base.specs.declared.names.Pid.{Pid}
use Rattle.tx_base.specs.declared.steps.Call.{Call}
use Rattle.tx_base.specs.declared.steps.Call.TheVariants.{SysXabort}
use Rattle.tx_base.specs.declared.steps.Reply.{Reply}
use Rattle.tx_base.specs.declared.steps.Step.{Step}
use Rattle.tx_base.specs.declared.steps.Step.TheVariants.{Call as Calls, Deliver, KernelAbort}
use Rattle.tx_model.specs.ObjectFacts.{has_head, has_tail, has_either, meets_not, targets_lack}
use Rattle.tx_model.specs.State.{Process, Object, Proc, Desc, Pipe, Held, has_object}
use Rattle.tx_model.specs.Numbers.{negative}
use Rattle.tx_model.specs.Events.{Event, Do, Note, process_of, actor, effect, objects}
use Rattle.tx_model.specs.Membership.{Table, is_of, is_member_of, is_live, inside_by, others_open, says_ended, Role, Outside, Within, Commits, Aborts, Kind, Ordinary, Forking, Beginning, Leaving, Aborting, kind_event, event_in}
use Rattle.tx_model.specs.Words.{member_end_role, ordinary_role, kind_of, is_blocking, called_by_status, kind_role}
use Rattle.tx_model.specs.History.{targets, event_footprint}
use Rattle.tx_model.specs.Footprints.{call_row_at, footprint}
use Rattle.tx_model.specs.View.{View, present, first_reply, role_on, event_on, some_object, has_two_answers, in_way, least}
use Rattle.tx_model.specs.Answer.{is_running}
use Rattle.tx_laws.specs.Fits.{HoldsFor}
use Rattle.tx_laws.specs.Footprints.{is_abort, is_asked, is_in_way, StarterInWayIsOfStep}
use Rattle.tx_laws.specs.Sound.{IsSound}
use Rattle.tx_laws.proofs.Coherence.{or_true}
use Rattle.tx_laws.proofs.HoldsInside.{holds_own}
use Rattle.tx_laws.proofs.SharedFootprints.{footprint_held}
use Rattle.tx_laws.proofs.StepFootprints.{footprint_of_event}
use Rattle.tx_laws.proofs.Tables.{of_unique}

-- a list that has of what passes all that another has meets it if the other does
meets_more : (P : Object → Bool) (F G : List Object) → ((o : Object) → P o ≡ true → has_object o F ≡ true → has_object o G ≡ true) → some_object F P ≡ true → some_object G P ≡ true
unfolding some_object
meets_more P [] G f h = cc
meets_more P (x ∷ xs) G f h = elim (or_true (P x) (some_object xs P) h) [
  | inl e ↦ met (some_object G P) refl (f x e (has_head x xs)) e
  | inr e ↦ meets_more P xs G (λ o k l. f o k (has_tail o x xs l)) e
]
  where
    met : (b : Bool) → some_object G P ≡ b → has_object x G ≡ true → P x ≡ true → b ≡ true
    met true e h k = refl
    met false e h k = absurd (meets_not G P x h k e)

-- lists that have the same of what passes meet it alike
meets_same : (P : Object → Bool) (F G : List Object) → ((o : Object) → P o ≡ true → has_object o F ≡ has_object o G) → some_object F P ≡ some_object G P
meets_same P F G f =
    same_tests (some_object F P) (some_object G P) (meets_more P F G (λ o k l. sym (f o k) ∙ l)) (meets_more P G F (λ o k l. f o k ∙ l))

-- whatever a step is to the transactions, who makes its event is the same
actor_same : (r : Role) (ev : Event) → actor (event_in r ev) ≡ actor ev
actor_same Outside ev = refl
actor_same (Within s part) ev = refl
actor_same (Commits s) ev = refl
actor_same (Aborts s status) ev = refl

-- the end of a member's part is no abort
ending_no_abort : (b : Bool) (s : ℕ) → is_abort (member_end_role b s) ≡ false
ending_no_abort true s = refl
ending_no_abort false s = refl

-- nor is an ordinary step
ordinary_no_abort : (b : Bool) (t : Table) (s p : ℕ) → is_abort (ordinary_role b t s p) ≡ false
ordinary_no_abort true t s p = ending_no_abort (others_open t s p t.width) s
ordinary_no_abort false t s p = refl

-- a step of process p, of this kind and with this mark
module _ (t : Table) (p : ℕ) (step : Step) (is : process_of step ≡ p) where
  -- its process makes its event, unless it is an abort
  kind_actor : (k : Kind) (r : Reply) (mark : Option Mark) → is_abort (kind_role t p k r mark) ≡ false → actor (kind_event t p step k mark) ≡ p
  kind_actor Ordinary r mark h = is
  kind_actor (Forking c) r mark h = is
  kind_actor (Beginning defers) r None h = refl
  kind_actor (Beginning defers) r (Some m) h = refl
  kind_actor Leaving r None h = refl
  kind_actor Leaving r (Some m) h = refl
  kind_actor Aborting r None h = refl
  kind_actor Aborting r (Some m) h = cc

  -- an abort is a call for it, by a member
  kind_aborts : (k : Kind) (r : Reply) (mark : Option Mark) → is_abort (kind_role t p k r mark) ≡ true → (k ≡ Aborting) × ((m : Mark) × (mark ≡ Some m))
  kind_aborts Ordinary r None h = cc
  kind_aborts Ordinary r (Some m) h = absurd (both_ways (is_abort (ordinary_role (says_ended r) t m.starter.0 p)) (ordinary_no_abort (says_ended r) t m.starter.0 p) h)
  kind_aborts (Forking c) r None h = cc
  kind_aborts (Forking c) r (Some m) h = cc
  kind_aborts (Beginning defers) r None h = cc
  kind_aborts (Beginning defers) r (Some m) h = cc
  kind_aborts Leaving r None h = cc
  kind_aborts Leaving r (Some m) h = absurd (both_ways (is_abort (member_end_role (others_open t m.starter.0 p t.width) m.starter.0)) (ending_no_abort (others_open t m.starter.0 p t.width) m.starter.0) h)
  kind_aborts Aborting r None h = cc
  kind_aborts Aborting r (Some m) h = (refl, (m, refl))

  -- what the event of a member's end holds is of the transaction of its process
  ending_holds : (m : Mark) (u : ℕ) (ev : Event) → (HoldsFor u ev → is_of u (Some m) ≡ true) → (b : Bool) → HoldsFor u (event_in (member_end_role b m.starter.0) ev) → is_of u (Some m) ≡ true
  ending_holds m u ev f true h = f h
  ending_holds m u ev f false (inl e) = eq-eqb m.starter.0 u (sym e)
  ending_holds m u ev f false (inr h) = f h

  -- what the event of a step of any kind holds is so too
  kind_holds : (u : ℕ) (k : Kind) (r : Reply) (mark : Option Mark) → HoldsFor u (event_in (kind_role t p k r mark) (kind_event t p step k mark)) → is_of u mark ≡ true
  kind_holds u Ordinary r None h = absurd h
  kind_holds u Ordinary r (Some m) h = by (says_ended r) h
    where
      by : (b : Bool) → HoldsFor u (event_in (ordinary_role b t m.starter.0 p) (Do step (inside_by t (Some m)))) → is_of u (Some m) ≡ true
      by true = ending_holds m u (Do step (inside_by t (Some m))) (λ e. eq-eqb m.starter.0 u e) (others_open t m.starter.0 p t.width)
      by false = λ e. eq-eqb m.starter.0 u e
  kind_holds u (Forking c) r None h = absurd h
  kind_holds u (Forking c) r (Some m) h = eq-eqb m.starter.0 u h
  kind_holds u (Beginning defers) r None h = absurd h
  kind_holds u (Beginning defers) r (Some m) h = absurd h
  kind_holds u Leaving r None h = absurd h
  kind_holds u Leaving r (Some m) h = ending_holds m u (Note p (pos 0)) (λ e. absurd e) (others_open t m.starter.0 p t.width) h
  kind_holds u Aborting r None h = absurd h
  kind_holds u Aborting r (Some m) h = absurd h

-- the process of a step that is no abort makes its event
step_actor : (V : View) (step : Step) → is_abort (role_on V step) ≡ false → actor (event_on V step) ≡ process_of step
step_actor V (Calls pid c) h =
    actor_same (role_on V (Calls pid c)) (kind_event V.table pid.0 (Calls pid c) (kind_of c) (V.table.marks pid.0))
    ∙ kind_actor V.table pid.0 (Calls pid c) refl (kind_of c) (first_reply V (Calls pid c)) (V.table.marks pid.0) h
step_actor V (Deliver pid signo) h = actor_same (role_on V (Deliver pid signo)) (kind_event V.table pid.0 (Deliver pid signo) Ordinary (V.table.marks pid.0))
step_actor V (KernelAbort s) h = cc

-- what the event of a step holds is of the transaction of its process
step_holds : (V : View) (step : Step) (u : ℕ) → HoldsFor u (event_on V step) → is_member_of V.table u (process_of step) ≡ true
step_holds V (Calls pid c) u h = kind_holds V.table pid.0 (Calls pid c) refl u (kind_of c) (first_reply V (Calls pid c)) (V.table.marks pid.0) h
step_holds V (Deliver pid signo) u h = kind_holds V.table pid.0 (Deliver pid signo) refl u Ordinary (first_reply V (Deliver pid signo)) (V.table.marks pid.0) h
step_holds V (KernelAbort s) u h = absurd h

-- the test of who is in the way, by a list that is met as the event's footprint is, and by a process that is a member where who makes it is
module _ (V : View) (ev : Event) (s p : ℕ) (row : List Object) where
  way_same : is_member_of V.table s (actor ev) ≡ is_member_of V.table s p
      → (is_member_of V.table s p ≡ false → some_object (event_footprint V.table ev (present V)) (V.reserved s) ≡ some_object row (V.reserved s))
      → in_way V ev s ≡ (if is_live V.table s then (if is_member_of V.table s p then false else (if some_object row (V.reserved s) then true else has_two_answers V ev s)) else false)
  unfolding in_way
  way_same member met = by (is_live V.table s)
    where
      there : (b : Bool) → is_member_of V.table s p ≡ b → is_blocking (not b) V ev s ≡ (if b then false else (if some_object row (V.reserved s) then true else has_two_answers V ev s))
      there true e = refl
      there false e = ap (λ (c : Bool). if c then true else has_two_answers V ev s) (met e)

      by : (b : Bool) → is_blocking (if b then not (is_member_of V.table s (actor ev)) else false) V ev s
          ≡ (if b then (if is_member_of V.table s p then false else (if some_object row (V.reserved s) then true else has_two_answers V ev s)) else false)
      by true = ap (λ (c : Bool). is_blocking (not c) V ev s) member ∙ there (is_member_of V.table s p) refl
      by false = refl

-- a step that is no abort, and the transaction of s
module _ (V : View) (sound : IsSound V) (step : Step) (runs : is_running ((present V).procs (process_of step)) ≡ true) (plain : is_abort (role_on V step) ≡ false) (s : ℕ) where
  -- where its process is no member, the event names nothing held that the transaction reserved
  event_held : is_member_of V.table s (process_of step) ≡ false → (u : ℕ) → V.reserved s (Held u) ≡ true → has_object (Held u) (event_footprint V.table (event_on V step) (present V)) ≡ true → ⊥
  unfolding event_footprint
  event_held other u reserved h =
      let ev : Event = event_on V step in
      elim (has_either (Held u) (objects ev (present V)) (targets V.table (actor ev) (effect ev (present V)).sends) h) [
        | inl e ↦ both_ways (is_member_of V.table s (process_of step)) other
            (subst (λ (x : ℕ). is_member_of V.table x (process_of step) ≡ true) (sym (sound.held_own s u reserved)) (step_holds V step u (holds_own ev (present V) u e)))
        | inr e ↦ both_ways (has_object (Held u) (targets V.table (actor ev) (effect ev (present V)).sends)) (targets_lack (Held u) (λ n. refl) V.table (actor ev) (effect ev (present V)).sends) e
      ]

  -- of what the transaction reserved, the event and the footprint name the same
  named_same : is_member_of V.table s (process_of step) ≡ false → (o : Object) → V.reserved s o ≡ true
      → has_object o (event_footprint V.table (event_on V step) (present V)) ≡ has_object o (footprint V.table step (present V))
  named_same other (Proc n) reserved = sym (footprint_of_event V step (Proc n) runs plain refl)
  named_same other (Desc n) reserved = sym (footprint_of_event V step (Desc n) runs plain refl)
  named_same other (Pipe n) reserved = sym (footprint_of_event V step (Pipe n) runs plain refl)
  named_same other (Held u) reserved =
      false_from_ne_true (has_object (Held u) (event_footprint V.table (event_on V step) (present V))) (event_held other u reserved)
      ∙ sym (footprint_held V.table step (present V) u)

  -- it is in the way by the event where it is by the footprint
  plain_way : in_way V (event_on V step) s ≡ is_in_way V step s
  plain_way = way_same V (event_on V step) s (process_of step) (footprint V.table step (present V))
      (ap (λ (q : ℕ). is_member_of V.table s q) (step_actor V step plain))
      (λ other. meets_same (V.reserved s) (event_footprint V.table (event_on V step) (present V)) (footprint V.table step (present V)) (named_same other))

-- an abort by a member, and the transaction of s
module _ (V : View) (sound : IsSound V) (pid : Pid) (m : Mark) (marked : V.table.marks pid.0 ≡ Some m) (s : ℕ) where
  -- the event of the abort
  note : Event
  note = Note m.starter.0 (negative called_by_status)

  -- the event of the call is that note
  event_is : event_on V (Calls pid SysXabort) ≡ note
  unfolding note
  event_is = rw marked refl

  -- the process is a member
  mine : is_member_of V.table m.starter.0 pid.0 ≡ true
  mine = rw marked (eq-eqb m.starter.0 m.starter.0 refl)

  -- its transaction is live
  starter_lives : is_live V.table m.starter.0 ≡ true
  starter_lives = sound.owned_live m.starter.0 (Proc pid.0) (sound.own_procs m.starter.0 pid.0 mine)

  -- the process and the starter are members of the same transaction
  member_same : is_member_of V.table s m.starter.0 ≡ is_member_of V.table s pid.0
  member_same = same_tests (is_member_of V.table s m.starter.0) (is_member_of V.table s pid.0)
      (λ h. subst (λ (u : ℕ). is_member_of V.table u pid.0 ≡ true) (sym (of_unique s m.starter.0 (V.table.marks m.starter.0) h starter_lives)) mine)
      (λ h. subst (λ (u : ℕ). is_member_of V.table u m.starter.0 ≡ true) (sym (of_unique s m.starter.0 (V.table.marks pid.0) h mine)) starter_lives)

  -- another transaction reserved no member
  unreserved : (q : ℕ) → is_member_of V.table m.starter.0 q ≡ true → is_member_of V.table s q ≡ false → V.reserved s (Proc q) ≡ false
  unreserved q member other = false_from_ne_true (V.reserved s (Proc q)) (λ h.
      both_ways (is_member_of V.table s q) other
      (subst (λ (u : ℕ). is_member_of V.table u q ≡ true) (sym (sound.single s m.starter.0 (Proc q) h (sound.own_procs m.starter.0 q member))) member))

  -- a process that was not reserved is not met
  meets_one : (q : ℕ) → V.reserved s (Proc q) ≡ false → some_object (Proc q ∷ []) (V.reserved s) ≡ false
  unfolding some_object
  meets_one q h = rw h refl

  -- the call names its process alone
  row_is : (x : Option Process) → call_row_at V.table pid.0 SysXabort x (present V) ≡ []
  row_is None = refl
  row_is (Some me) = refl

  -- and so does its footprint
  foot_is : footprint V.table (Calls pid SysXabort) (present V) ≡ Proc pid.0 ∷ []
  unfolding footprint
  foot_is = ap (λ (os : List Object). Proc pid.0 ∷ os) (row_is ((present V).procs pid.0))

  -- the note names the starter alone
  note_foot : event_footprint V.table note (present V) ≡ Proc m.starter.0 ∷ []
  unfolding note event_footprint objects effect targets
  note_foot = refl

  -- so neither is met by what another transaction reserved
  met_alike : is_member_of V.table s pid.0 ≡ false → some_object (event_footprint V.table note (present V)) (V.reserved s) ≡ some_object (footprint V.table (Calls pid SysXabort) (present V)) (V.reserved s)
  met_alike other =
      ap (λ (os : List Object). some_object os (V.reserved s)) note_foot
      ∙ meets_one m.starter.0 (unreserved m.starter.0 starter_lives (member_same ∙ other))
      ∙ sym (ap (λ (os : List Object). some_object os (V.reserved s)) foot_is ∙ meets_one pid.0 (unreserved pid.0 mine other))

  -- it is in the way by the note where it is by the footprint
  abort_way : in_way V (event_on V (Calls pid SysXabort)) s ≡ is_in_way V (Calls pid SysXabort) s
  unfolding note
  abort_way = way_same V (event_on V (Calls pid SysXabort)) s pid.0 (footprint V.table (Calls pid SysXabort) (present V))
      (ap (λ (ev : Event). is_member_of V.table s (actor ev)) event_is ∙ member_same)
      (λ other. ap (λ (ev : Event). some_object (event_footprint V.table ev (present V)) (V.reserved s)) event_is ∙ met_alike other)

-- the call for an abort
aborting_call : (c : Call) → kind_of c ≡ Aborting → c ≡ SysXabort
aborting_call SysXabort e = refl
aborting_call c e = cc

-- who is in the way of a step, by its event and by its footprint
step_way : (V : View) (step : Step) → IsSound V → is_asked step ≡ true → is_running ((present V).procs (process_of step)) ≡ true → (s : ℕ) → (b : Bool) → is_abort (role_on V step) ≡ b
    → in_way V (event_on V step) s ≡ is_in_way V step s
step_way V step sound asked runs s false e = plain_way V sound step runs e s
step_way V (Calls pid c) sound asked runs s true e =
    let a = kind_aborts V.table pid.0 (Calls pid c) refl (kind_of c) (first_reply V (Calls pid c)) (V.table.marks pid.0) e in
    subst (λ (d : Call). in_way V (event_on V (Calls pid d)) s ≡ is_in_way V (Calls pid d) s) (sym (aborting_call c a.0)) (abort_way V sound pid a.1.0 a.1.1 s)
step_way V (Deliver pid signo) sound asked runs s true e =
    let a = kind_aborts V.table pid.0 (Deliver pid signo) refl Ordinary (first_reply V (Deliver pid signo)) (V.table.marks pid.0) e in
    let no : Ordinary ≡ Aborting = a.0 in cc
step_way V (KernelAbort u) sound asked runs s true e = cc

-- the least starter that is in the way of the step
pub starter_in_way_of_step : StarterInWayIsOfStep
starter_in_way_of_step V step sound asked runs =
    ap (λ (P : ℕ → Bool). least P V.table.width) (λ i s. step_way V step sound asked runs s (is_abort (role_on V step)) refl i)
