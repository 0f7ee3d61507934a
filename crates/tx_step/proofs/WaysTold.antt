-- The way of a step that is no abort: what its event names, what is posted with it, and who makes it.
use Rattle.std.proofs.Common.{◌≡◌, ℕ, Bool, true, false, None, length, map, List, Option, Some, option_map, refl, sym, ap, subst, ◌∙◌}
use Rattle.tx_base.specs.Slots.{slot_at}
use Rattle.tx_base.specs.declared.marks.Mark.{Mark}
use Rattle.tx_base.specs.declared.names.Pid.{Pid}
use Rattle.tx_base.specs.declared.names.Sending.{Sending}
use Rattle.tx_base.specs.declared.names.Signo.{Signo}
use Rattle.tx_base.specs.declared.steps.Call.{Call}
use Rattle.tx_base.specs.declared.steps.Reply.{Reply}
use Rattle.tx_base.specs.declared.steps.Step.{Step}
use Rattle.tx_base.specs.declared.steps.Step.TheVariants.{Call as Calls, Deliver}
use Rattle.tx_change.specs.States.{state_of}
use Rattle.tx_change.specs.declared.parts.Parts.{Parts}
use Rattle.tx_step.proofs.LastHeld.{call_goes, delivery_goes, GoesAt}
use Rattle.tx_step.proofs.StepEvents.{aborts_own, of_member, ordinary_aborts}
use Rattle.tx_step.proofs.StepFootprints.{footprint_told, runs, HasNumbers}
use Rattle.tx_step.proofs.StepSends.{call_posts, delivery_posts, posted_in, sends_so}
use Rattle.tx_step.proofs.Refusals.{marked_live}
use Rattle.tx_step.proofs.WholeContents.{now_formed}
use Rattle.tx_step.specs.Contents.{IsContent}
use Rattle.tx_step.specs.InWay.{IsOfMember, starter_in}
use Rattle.tx_step.specs.RefusalLaws.{WayLaws}
use Rattle.tx_step.specs.Roles.{role_as}
use Rattle.tx_step.specs.Ways.{IsOwnActor, held_at_commit, posted_with}
use Rattle.tx_step.specs.declared.roles.StepRole.{StepRole}
use Rattle.tx_step.specs.declared.roles.StepRole.TheVariants as the
use Rattle.tx_kernel.specs.Actors.{inside_of, me_of}
use Rattle.tx_kernel.specs.Plans.{sending_of}
use Rattle.tx_kernel.specs.Sends.{IsSentBy}
use Rattle.tx_kernel.specs.declared.actor.Actor.{Actor}
use Rattle.tx_kernel.specs.declared.planned.Sends.{Sends}
use Rattle.tx_laws.specs.Footprints.{is_abort}
use Rattle.tx_laws.specs.TwoStates.{states_view}
use Rattle.tx_content.specs.Content.{held_of, now_of, view_of}
use Rattle.tx_content.specs.Insides.{IsFootprint}
use Rattle.tx_content.specs.Made.{IsRunning}
use Rattle.tx_content.specs.declared.content.Content.{Content}
use Rattle.tx_model.specs.Words.{has_bad_number, call_effect, delivery_effect, called_by_status, kind_of}
use Rattle.tx_model.specs.Effects.{Inside}
use Rattle.tx_model.specs.Deliveries.{delivered_value, ends_by}
use Rattle.tx_model.specs.Events.{Note, effect, process_of}
use Rattle.tx_model.specs.Footprints.{footprint}
use Rattle.tx_model.specs.Membership.{Role, Ordinary, Table, event_in, inside_by, is_live, kind_event}
use Rattle.tx_model.specs.Numbers.{negative}
use Rattle.tx_model.specs.State.{Process, Sending as TheSending, State}
use Rattle.tx_model.specs.View.{event_on, first_reply, role_on}
use Rattle.tx_proc.specs.Parts.{process_in}
use Rattle.tx_reserve.specs.Footprints.{ends_actor, ends_part, GoesBy, GoesIf, GoesWith, GoesWithCall, GoesWithDelivery, IsInside, IsSetOf, table_at as table_with, table_of}
use Rattle.tx_reserve.specs.declared.objects.Objects.{Objects}
use Rattle.tx_txn.specs.Marks.{table_at}

module _ (k : Content) (pid : Pid) (actor : Actor) (own : IsOwnActor k pid actor) where
  -- it makes its steps inside of what the marks say
  pub is_inside : IsInside actor k.marks
  is_inside = own.inside ∙ ap (λ (x : Pid). inside_by (table_at k.marks) (slot_at k.marks x.0)) (sym own.pid_is)

  goes_with : (last : Option (List Sending)) → GoesAt k pid.0 last → GoesWith actor k.marks last (held_of k)
  goes_with last goes =
      subst (λ (x : Pid). GoesBy (table_of actor.parts.now k.marks) x.0 (slot_at k.marks x.0) last (held_of k)) (sym own.pid_is)
      (subst (λ (parts : Parts). GoesBy (table_of parts k.marks) pid.0 (slot_at k.marks pid.0) last (held_of k)) (sym own.parts) goes)

  -- the set has the footprint of the step, where the sends that are given go with it if it ends its process's part
  set_there : (make : Pid → Step) (set : Objects) (last : Option (List Sending)) (ends : Bool) → (ends ≡ true → GoesAt k pid.0 last) →
      ((held : ℕ → List TheSending) → GoesIf ends actor k.marks last held → IsSetOf set (footprint (table_with actor k.marks) (make actor.pid) (state_of held actor.parts.now))) →
      IsSetOf set (footprint (table_of k.parts k.marks) (make pid) (now_of k))
  set_there make set last ends goes is =
      subst (λ (parts : Parts). IsSetOf set (footprint (table_of parts k.marks) (make pid) (state_of (held_of k) parts))) own.parts
      (subst (λ (x : Pid). IsSetOf set (footprint (table_of actor.parts.now k.marks) (make x) (state_of (held_of k) actor.parts.now))) own.pid_is
      (is (held_of k) (λ h. goes_with last (goes h))))

  slot_there : slot_at k.parts.procs pid.0 ≡ Some actor.proc.now
  slot_there = sym (λ j. slot_at (own.parts j).procs (own.pid_is j).0) ∙ own.is.there

  there : (now_of k).procs pid.0 ≡ Some (me_of actor)
  there = ap process_in slot_there

  -- the same of a call and of a delivery, where the sends are given by what that is to the transactions
  module _ (laws : WayLaws) (is : IsContent k) (running : IsRunning (slot_at k.parts.procs pid.0)) (role : StepRole) (last : Option (List Sending))
      (given : option_map (map sending_of) last ≡ held_at_commit k role) (set : Objects) where
    pub call_set : (called : Call) → role_as pid.0 role ≡ role_on (view_of k) (Calls pid called) →
        ((held : ℕ → List TheSending) → GoesWithCall actor k.marks called last held → IsSetOf set (footprint (table_with actor k.marks) (Calls actor.pid called) (state_of held actor.parts.now))) →
        IsSetOf set (footprint (table_of k.parts k.marks) (Calls pid called) (now_of k))
    call_set called told put =
        set_there (λ p. Calls p called) set last (ends_part actor.pid.0 called)
        (λ h. call_goes laws.present k pid is.shaped running role last given laws.other_call laws.exit called told (ap (λ (x : Pid). ends_part x.0 called) (sym own.pid_is) ∙ h)) put

    pub delivery_set : (signo : Signo) → role_as pid.0 role ≡ role_on (view_of k) (Deliver pid signo) →
        ((held : ℕ → List TheSending) → GoesWithDelivery actor k.marks signo last held → IsSetOf set (footprint (table_with actor k.marks) (Deliver actor.pid signo) (state_of held actor.parts.now))) →
        IsSetOf set (footprint (table_of k.parts k.marks) (Deliver pid signo) (now_of k))
    delivery_set signo told put =
        set_there (λ p. Deliver p signo) set last (ends_actor actor signo)
        (λ h. delivery_goes laws.present k pid is.shaped running role last given laws.delivery signo actor.proc.now slot_there told
        (ap (λ (inside : Option Inside). ends_by inside signo.0 (me_of actor) (delivered_value signo.0 (me_of actor))) (sym own.inside) ∙ h)) put

  -- what is posted with a call
  pub call_posted : (called : Call) (role : StepRole) (first : Sends) → role_as pid.0 role ≡ role_on (view_of k) (Calls pid called) →
      IsSentBy actor first (λ S. call_effect (inside_of actor.inside) actor.pid.0 called (me_of actor) S) →
      (effect (event_on (view_of k) (Calls pid called)) (now_of k)).sends ≡ posted_with k role first
  unfolding view_of states_view
  call_posted called role first is sent =
      posted_in k (table_at k.marks) pid.0 (Calls pid called) (kind_of called) (first_reply (view_of k) (Calls pid called)) (slot_at k.marks pid.0) first role
      (call_effect (inside_by (table_at k.marks) (slot_at k.marks pid.0)) pid.0 called (me_of actor) (now_of k)) is
      (call_posts (table_at k.marks) pid called (slot_at k.marks pid.0) (now_of k) (me_of actor) there own.is.runs)
      (sends_so k pid (inside_by (table_at k.marks) (slot_at k.marks pid.0)) actor first (λ (inside : Option Inside) (p : ℕ) (me : Process) (S : State). call_effect inside p called me S)
      own.parts own.pid_is own.inside own.counts sent)

  -- what is posted with a delivery
  pub delivery_posted : (signo : Signo) (role : StepRole) (first : Sends) → role_as pid.0 role ≡ role_on (view_of k) (Deliver pid signo) →
      IsSentBy actor first (λ S. delivery_effect (inside_of actor.inside) actor.pid.0 signo.0 (me_of actor) S) →
      (effect (event_on (view_of k) (Deliver pid signo)) (now_of k)).sends ≡ posted_with k role first
  unfolding view_of states_view
  delivery_posted signo role first is sent =
      posted_in k (table_at k.marks) pid.0 (Deliver pid signo) Ordinary (first_reply (view_of k) (Deliver pid signo)) (slot_at k.marks pid.0) first role
      (delivery_effect (inside_by (table_at k.marks) (slot_at k.marks pid.0)) pid.0 signo.0 (me_of actor) (now_of k)) is
      (delivery_posts (table_at k.marks) pid signo (slot_at k.marks pid.0) (now_of k) (me_of actor) there own.is.runs)
      (sends_so k pid (inside_by (table_at k.marks) (slot_at k.marks pid.0)) actor first (λ (inside : Option Inside) (p : ℕ) (me : Process) (S : State). delivery_effect inside p signo.0 me S)
      own.parts own.pid_is own.inside own.counts sent)

module _ (laws : WayLaws) (k : Content) (pid : Pid) where
  -- who makes a call or a delivery
  pub call_member : (called : Call) → is_abort (role_on (view_of k) (Calls pid called)) ≡ false → IsOfMember k (starter_in (slot_at k.marks pid.0)) (event_on (view_of k) (Calls pid called))
  unfolding view_of states_view
  call_member called no_abort = of_member laws.own k (table_at k.marks) pid.0 (Calls pid called) (kind_of called) (first_reply (view_of k) (Calls pid called)) refl no_abort

  pub delivery_member : (signo : Signo) → is_abort (role_on (view_of k) (Deliver pid signo)) ≡ false → IsOfMember k (starter_in (slot_at k.marks pid.0)) (event_on (view_of k) (Deliver pid signo))
  unfolding view_of states_view
  delivery_member signo no_abort = of_member laws.own k (table_at k.marks) pid.0 (Deliver pid signo) Ordinary (first_reply (view_of k) (Deliver pid signo)) refl no_abort

  -- the footprint of a step of a process that runs has objects of numbers that there are alone
  numbers_told : (step : Step) → IsContent k → IsRunning (slot_at k.parts.procs (process_of step)) → has_bad_number (length k.parts.procs) step ≡ false → HasNumbers k step
  numbers_told step is running good o named =
      laws.within (table_of k.parts k.marks) step (now_of k) o (now_formed laws.present k is) (runs (slot_at k.parts.procs (process_of step)) running) good named

  -- the set of a step's footprint is that of its event
  pub footprint_is : (step : Step) (set : Objects) → IsContent k → IsRunning (slot_at k.parts.procs (process_of step)) → has_bad_number (length k.parts.procs) step ≡ false →
      is_abort (role_on (view_of k) step) ≡ false → IsSetOf set (footprint (table_of k.parts k.marks) step (now_of k)) → IsFootprint k (event_on (view_of k) step) set
  footprint_is step set is running good no_abort there =
      footprint_told laws.of_event laws.present laws.small k step set is.shaped running no_abort (numbers_told step is running good) there

-- an abort is of a live transaction, and stands for a note to its starter
pub aborted : (k : Content) (pid : Pid) (called : Call) (starter : Pid) → IsContent k → role_as pid.0 (the.Aborts starter) ≡ role_on (view_of k) (Calls pid called) →
    (is_live (table_at k.marks) starter.0 ≡ true) × (event_on (view_of k) (Calls pid called) ≡ Note starter.0 (negative called_by_status))
unfolding view_of states_view
aborted k pid called starter is role =
    let t : Table = table_at k.marks in
    let r : Reply = first_reply (view_of k) (Calls pid called) in
    let mark : Option Mark = slot_at k.marks pid.0 in
    let own = aborts_own t pid.0 (Calls pid called) (kind_of called) r mark starter.0 called_by_status role in
    (by mark refl own.0, ap (λ (x : Role). event_in x (kind_event t pid.0 (Calls pid called) (kind_of called) mark)) (sym role) ∙ own.1)
  where
    by : (mark : Option Mark) → slot_at k.marks pid.0 ≡ mark → starter_in mark ≡ Some starter.0 → is_live (table_at k.marks) starter.0 ≡ true
    by None at h = cc
    by (Some m) at h = let same : m.starter.0 ≡ starter.0 = cc in subst (λ (s : ℕ). is_live (table_at k.marks) s ≡ true) same (marked_live k pid m is.kept at)

-- a step that is no abort by its role
pub not_abort : (p : ℕ) (role : StepRole) (R : Role) → ((starter : Pid) → role ≡ the.Aborts starter → ⊥) → role_as p role ≡ R → is_abort R ≡ false
not_abort p the.Outside R other is = ap is_abort (sym is)
not_abort p (the.Begins defers) R other is = ap is_abort (sym is)
not_abort p (the.Inside starter progress) R other is = ap is_abort (sym is)
not_abort p (the.Commits starter) R other is = ap is_abort (sym is)
not_abort p (the.Aborts starter) R other is = absurd (other starter refl)

-- a delivery is none
pub delivery_no_abort : (k : Content) (pid : Pid) (signo : Signo) → is_abort (role_on (view_of k) (Deliver pid signo)) ≡ false
unfolding view_of states_view
delivery_no_abort k pid signo = ordinary_aborts (table_at k.marks) pid.0 (first_reply (view_of k) (Deliver pid signo)) (slot_at k.marks pid.0)
