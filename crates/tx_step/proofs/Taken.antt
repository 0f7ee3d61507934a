-- A step that was made as what it is to the transactions is a step.
use Rattle.std.proofs.Common.{◌≡◌, ℕ, Bool, true, false, not, List, [], length, Option, Some, None, option_map, is_none, if◌then◌else◌, refl, sym, ap, subst, ◌∙◌, inl, inr, eq-eqb}
use Rattle.tx_base.specs.Slots.{slot_at}
use Rattle.tx_base.specs.declared.names.Pid.{Pid}
use Rattle.tx_base.specs.declared.steps.Refusal.{Refusal}
use Rattle.tx_base.specs.declared.steps.Refusal.TheVariants.{NoProcess, NotRunning, BadNumber}
use Rattle.tx_base.specs.declared.steps.Reply.{Reply}
use Rattle.tx_base.specs.declared.steps.Reply.TheVariants.{Done, Ended, Committed, Aborted as AbortedWith, Out, No}
use Rattle.tx_base.specs.declared.steps.Step.{Step}
use Rattle.tx_change.specs.declared.change.Change.{Change}
use Rattle.std.specs.Option.{option_or}
use Rattle.tx_model.specs.ObjectFacts.{has_left, has_either}
use Rattle.tx_step.specs.Contents.{IsContent}
use Rattle.tx_step.specs.declared.roles.StepRole.{StepRole}
use Rattle.tx_kernel.specs.Plans.{AreAmong}
use Rattle.tx_laws.specs.Commuting.{named_by}
use Rattle.tx_laws.specs.Fits.{ends_it, Fits, Passes}
use Rattle.tx_laws.specs.Footprints.{is_abort}
use Rattle.tx_laws.specs.Sound.{IsSound}
use Rattle.tx_laws.specs.TwoStates.{is_owner, states_view}
use Rattle.tx_laws.specs.WellFormed.{IsWellFormed}
use Rattle.tx_laws.specs.WellFormedTable.{IsWellFormedView}
use Rattle.tx_content.specs.Content.{content_of, held_in, now_of, owner_at, txn_of, view_of}
use Rattle.tx_content.specs.Inverses.{changes_of}
use Rattle.tx_content.specs.Made.{AreLocal, IsMade, IsRunning}
use Rattle.tx_content.specs.declared.content.BoxedTxn.{BoxedTxn}
use Rattle.tx_content.specs.declared.content.Content.{Content}
use Rattle.tx_content.specs.declared.inverse.Inverse.{Inverse}
use Rattle.tx_model.specs.Answer.{answer, is_running, is_there, plain_reply, refusal, IsAccepted}
use Rattle.tx_model.specs.Words.{busy, has_bad_number, unless_refused, processes_of, called_by_status}
use Rattle.tx_model.specs.Events.{Event, actor, effect, objects, process_of}
use Rattle.tx_model.specs.History.{event_footprint, nobody, targets}
use Rattle.tx_model.specs.Membership.{Role, Outside, Within, Commits, Aborts}
use Rattle.tx_model.specs.State.{Object, State, has_object}
use Rattle.tx_model.specs.View.{View, event_on, next, present, role_on}
use Rattle.tx_proc.specs.Parts.{process_in}
use Rattle.tx_proc.specs.declared.proc.Proc.{Proc}
use Rattle.tx_step.proofs.NamedObjects.{named_among, named_shared}
use Rattle.tx_step.specs.Requests.{step_of}
use Rattle.tx_step.specs.Laws.{StepLaws}
use Rattle.tx_step.specs.Steps.{FitsReply, IsNamedBy, InFootprint, GetsSend, WasTouched, IsStep}
use Rattle.tx_step.specs.Through.{IsLetThrough}
use Rattle.tx_step.specs.declared.request.Request.{Request}
use Rattle.tx_step.specs.declared.request.Request.TheVariants.{Call, Delivery}
use Rattle.tx_txn.specs.Content.{two_states_of, is_named, IsKept, OthersHoldNothing}
use Rattle.tx_txn.specs.Steps.{next_content, IsNext, Logs}

-- what is held, a live transaction holds
others_hold_nothing : (k : Content) → OthersHoldNothing (content_of k)
others_hold_nothing k s none = by (slot_at k.txns s) none
  where
    by : (slot : Option BoxedTxn) → option_map txn_of slot ≡ None → held_in slot ≡ []
    by None e = refl
    by (Some boxed) e = cc

-- there is none of the first three reasons
pub no_reason : (a b c : Bool) (rest : Option Refusal) →
    (if not a then Some NoProcess else (if not b then Some NotRunning else (if c then Some BadNumber else rest))) ≡ None → (b ≡ true) × (c ≡ false)
no_reason false b c rest e = cc
no_reason true false c rest e = cc
no_reason true true true rest e = cc
no_reason true true false rest e = (refl, refl)

-- a call or a delivery is refused, or has the reply of its event
pub answer_requested : (V : View) (pid : Pid) (request : Request) →
    answer V (step_of pid request) ≡ unless_refused (refusal V pid.0 (step_of pid request)) (plain_reply called_by_status (role_on V (step_of pid request)) (event_on V (step_of pid request)) (present V))
unfolding answer
answer_requested V pid (Call call) = refl
answer_requested V pid (Delivery signo) = refl

pub process_requested : (pid : Pid) (request : Request) → process_of (step_of pid request) ≡ pid.0
process_requested pid (Call call) = refl
process_requested pid (Delivery signo) = refl

pub running_in : (slot : Option Proc) → is_running (process_in slot) ≡ true → IsRunning slot
running_in None e = cc
running_in (Some proc) e = by proc.status e
  where
    by : (status : Option ℕ) → is_none status ≡ true → status ≡ None
    by None z = refl
    by (Some n) z = cc

module _ (laws : StepLaws) (k : Content) (is : IsContent k) where
  pub now_seen : present (view_of k) ≡ now_of k
  unfolding view_of
  now_seen = laws.present (two_states_of (content_of k))

  pub sound : IsSound (view_of k)
  unfolding view_of
  sound = is.kept.sound

  -- who owns an object reserved it
  pub reserved_own : (s : ℕ) (o : Object) → owner_at k o ≡ Some s → (view_of k).reserved s o ≡ true
  unfolding view_of states_view
  reserved_own s o own = ap (is_owner s) own ∙ eq-eqb s s refl

  -- what changes of the event's objects and of its targets name, the step names
  named_by_event : (step : Step) → is_running ((present (view_of k)).procs (process_of step)) ≡ true → is_abort (role_on (view_of k) step) ≡ false →
      (changes : List Change) → AreAmong (named_by (event_on (view_of k) step) (now_of k)) changes → (o : Object) → is_named o changes ≡ true → IsNamedBy (view_of k) step o
  unfolding named_by event_footprint
  named_by_event step runs no_abort changes among o named =
      let E : Event = event_on (view_of k) step in
      let S : State = present (view_of k) in
      let there : has_object o (named_by E S) ≡ true = ap (λ (R : State). has_object o (named_by E R)) now_seen ∙ named_among (named_by E (now_of k)) changes o among named in
      elim (has_either o (objects E S) (processes_of (effect E S).sends) there) [
        | inl h ↦ InFootprint (laws.of_event (view_of k) step o runs no_abort (named_shared changes o named) ∙ has_left o (objects E S) (targets (view_of k).table (actor E) (effect E S).sends) h)
        | inr h ↦ GetsSend h
      ]

  -- what local changes name, the step names
  local : (step : Step) (R : Role) (E : Event) → role_on (view_of k) step ≡ R → event_on (view_of k) step ≡ E →
      (is_abort R ≡ false → is_running ((present (view_of k)).procs (process_of step)) ≡ true) →
      (changes : List Change) → AreLocal R E k changes → (o : Object) → is_named o changes ≡ true → IsNamedBy (view_of k) step o
  local step Outside E role event runs changes are o named =
      named_by_event step (runs refl) (ap is_abort role) changes (subst (λ (e : Event). AreAmong (named_by e (now_of k)) changes) (sym event) are) o named
  local step (Within s part) E role event runs changes are o named =
      named_by_event step (runs refl) (ap is_abort role) changes (subst (λ (e : Event). AreAmong (named_by e (now_of k)) changes) (sym event) are) o named
  local step (Commits s) E role event runs changes are o named =
      named_by_event step (runs refl) (ap is_abort role) changes (subst (λ (e : Event). AreAmong (named_by e (now_of k)) changes) (sym event) are) o named
  local step (Aborts s status) E role event runs changes are o named =
      WasTouched s (ap (ends_it s) role ∙ eq-eqb s s refl) (reserved_own s o (are o named))

  -- the content that was made has the next view
  next_seen : (step : Step) (R : Role) (E : Event) → role_on (view_of k) step ≡ R → event_on (view_of k) step ≡ E → IsAccepted (answer (view_of k) step) →
      (new : Content) (inverse : Inverse) → IsMade k R E (process_of step) new inverse →
      (view_of new ≡ next (view_of k) step) × IsKept (content_of new)
  unfolding view_of
  next_seen step R E role event accepted new inverse made = (
    ap (λ c. states_view (two_states_of c)) same ∙ follows.view,
    subst IsKept (sym same) (follows.kept (subst OthersHoldNothing same (others_hold_nothing new))),
  )
    where
      logs : Logs (role_on (view_of k) step) (event_on (view_of k) step) made.records (content_of k)
      logs = subst (λ (r : Role). Logs r (event_on (view_of k) step) made.records (content_of k)) (sym role)
          (subst (λ (e : Event). Logs R e made.records (content_of k)) (sym event) made.logs)

      follows : IsNext (next_content (role_on (view_of k) step) (event_on (view_of k) step) (process_of step) made.records (content_of k)) (next (view_of k) step)
      follows = laws.follows (content_of k) step made.records is.kept accepted logs

      same : content_of new ≡ next_content (role_on (view_of k) step) (event_on (view_of k) step) (process_of step) made.records (content_of k)
      same = made.next ∙ sym (λ j. next_content (role j) (event j) (process_of step) made.records (content_of k))

  -- an accepted step goes with its role
  pub fitting : (step : Step) (R : Role) (E : Event) → role_on (view_of k) step ≡ R → event_on (view_of k) step ≡ E → IsAccepted (answer (view_of k) step) →
      Passes R E (view_of k) × Fits R E (process_of step) (view_of k)
  fitting step R E role event accepted =
      subst (λ (r : Role). Passes r E (view_of k) × Fits r E (process_of step) (view_of k)) role
      (subst (λ (e : Event). Passes (role_on (view_of k) step) e (view_of k) × Fits (role_on (view_of k) step) e (process_of step) (view_of k)) event
      (laws.fits (view_of k) step sound accepted))

  -- a step that is accepted, and was made as what it is to the transactions, is a step
  pub stepped : (step : Step) (R : Role) (E : Event) → role_on (view_of k) step ≡ R → event_on (view_of k) step ≡ E →
      (reply : Reply) → answer (view_of k) step ≡ reply → IsAccepted reply →
      (is_abort R ≡ false → is_running ((present (view_of k)).procs (process_of step)) ≡ true) →
      (new : Content) (inverse : Inverse) → (Fits R E (process_of step) (view_of k) → IsMade k R E (process_of step) new inverse) →
      IsStep k step reply inverse new
  stepped step R E role event reply answered accepted runs new inverse make = record {
    answered = answered;
    accepted = accepted;
    fits = fits reply answered;
    next = seen.0;
    content = record {
      shaped = made.shaped;
      kept = seen.1;
      formed = λ left_out. subst (λ (V : View). IsWellFormed (V.without left_out)) (sym seen.0) (laws.formed (view_of k) step sound passed is.formed left_out);
      view = subst IsWellFormedView (sym seen.0) (laws.view (view_of k) step sound (is.formed nobody) is.view passed);
    };
    goes = made.goes;
    back = made.back;
    local = λ o named. local step R E role event runs (changes_of new inverse) made.local o named;
    whole = made.whole;
  }
    where
      fits : (reply : Reply) → answer (view_of k) step ≡ reply → FitsReply reply
      fits (Done ret) e = tt
      fits Ended e = tt
      fits (Committed missed) e = laws.listed (view_of k) step missed.items sound (is.formed nobody) is.view e
      fits (AbortedWith status) e = tt
      fits (Out bytes) e = laws.shown (view_of k) step bytes e
      fits (No why) e = tt

      passed : IsAccepted (answer (view_of k) step)
      passed = subst IsAccepted (sym answered) accepted

      made : IsMade k R E (process_of step) new inverse
      made = make (fitting step R E role event passed).1

      seen : (view_of new ≡ next (view_of k) step) × IsKept (content_of new)
      seen = next_seen step R E role event passed new inverse made

  module _ (pid : Pid) (request : Request) (role : StepRole) (through : IsLetThrough k pid request role) where
    -- a step that is let through is answered as its event
    pub answered : (R : Role) (E : Event) → role_on (view_of k) (step_of pid request) ≡ R → event_on (view_of k) (step_of pid request) ≡ E →
        answer (view_of k) (step_of pid request) ≡ plain_reply called_by_status R E (now_of k)
    answered R E is_role is_event =
        answer_requested (view_of k) pid request
        ∙ (λ j. unless_refused (none j) (plain_reply called_by_status (is_role j) (is_event j) (now_seen j)))
      where
        none : refusal (view_of k) pid.0 (step_of pid request) ≡ None
        none = laws.early (view_of k) pid.0 (step_of pid request) ∙ (λ j. option_or (through.early j) (busy (through.clear j)))

    passes : (is_running ((present (view_of k)).procs pid.0) ≡ true) × (has_bad_number (view_of k).table.width (step_of pid request) ≡ false)
    passes = no_reason (is_there (view_of k) pid.0) (is_running ((present (view_of k)).procs pid.0)) (has_bad_number (view_of k).table.width (step_of pid request)) _ through.early

    -- its process runs
    pub runs_seen : is_running ((present (view_of k)).procs (process_of (step_of pid request))) ≡ true
    runs_seen = ap (λ (p : ℕ). is_running ((present (view_of k)).procs p)) (process_requested pid request) ∙ passes.0

    pub runs : IsRunning (slot_at k.parts.procs pid.0)
    runs = running_in (slot_at k.parts.procs pid.0) (ap (λ (S : State). is_running (S.procs pid.0)) (sym now_seen) ∙ passes.0)

    -- and it chooses good numbers
    pub numbers : has_bad_number (length k.parts.procs) (step_of pid request) ≡ false
    unfolding view_of states_view
    numbers = ap (λ (w : ℕ). has_bad_number w (step_of pid request)) (sym is.shaped.marks) ∙ passes.1
