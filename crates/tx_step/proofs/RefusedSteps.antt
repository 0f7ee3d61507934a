-- A step that is refused changes nothing, and says why.
use Rattle.std.proofs.Common.{◌≡◌, ◌≢◌, ◌⊎◌, ℕ, Bool, true, false, not, length, Option, Some, None, option_map, is_some, if◌then◌else◌, refl, sym, ap, subst, ◌∙◌, inl, inr}
use Rattle.std.specs.Option.{option_or}
use Rattle.tx_base.specs.Slots.{slot_at}
use Rattle.tx_base.specs.declared.marks.Mark.{Mark}
use Rattle.tx_base.specs.declared.names.Pid.{Pid}
use Rattle.tx_base.specs.declared.steps.Call.TheVariants.{SysXabort}
use Rattle.tx_base.specs.declared.steps.Refusal.{Refusal}
use Rattle.tx_base.specs.declared.steps.Refusal.TheVariants.{NoProcess, NotRunning, BadNumber, NumberTaken, Doomed, Parked, KillPending, Busy, NoMemory}
use Rattle.tx_base.specs.declared.steps.Reply.TheVariants.{No}
use Rattle.tx_base.specs.declared.steps.Step.{Step}
use Rattle.tx_base.specs.declared.steps.Step.TheVariants.{Call as Calls}
use Rattle.tx_step.specs.Contents.{IsContent}
use Rattle.tx_step.specs.Early.{early_refusal}
use Rattle.tx_step.specs.Late.{IsWhyNot}
use Rattle.tx_step.specs.declared.roles.StepRole.{StepRole}
use Rattle.tx_laws.specs.Footprints.{is_abort}
use Rattle.tx_laws.specs.TwoStates.{states_view}
use Rattle.tx_content.specs.Content.{now_of, view_of}
use Rattle.tx_content.specs.Made.{IsRunning}
use Rattle.tx_content.specs.declared.content.Content.{Content}
use Rattle.tx_content.specs.declared.inverse.Inverse.{Inverse}
use Rattle.tx_model.specs.Answer.{answer, is_doomed_at, is_parked, is_running, is_there, plain_reply, refusal, IsAccepted}
use Rattle.tx_model.specs.Words.{busy, has_bad_number, has_number_in_use, is_stopped_by_kill, unless_refused, called_by_status, kind_role}
use Rattle.tx_model.specs.Events.{Event, process_of, reply_of}
use Rattle.tx_model.specs.Membership.{Role, Aborting}
use Rattle.tx_model.specs.State.{State}
use Rattle.tx_model.specs.View.{event_on, first_reply, starter_in_way, present, role_on}
use Rattle.tx_reserve.specs.Reservations.{number_of}
use Rattle.tx_step.proofs.Taken.{answer_requested, answered, no_reason, now_seen, process_requested, running_in}
use Rattle.tx_step.specs.Requests.{step_of}
use Rattle.tx_step.specs.Laws.{StepLaws}
use Rattle.tx_step.specs.Steps.{IsKernelAbort, IsRefused, IsStep, IsXabort, replied}
use Rattle.tx_step.specs.Through.{IsLetThrough}
use Rattle.tx_step.specs.declared.answered.Answered.{Answered}
use Rattle.tx_step.specs.declared.request.Request.{Request}
use Rattle.tx_step.specs.declared.request.Request.TheVariants.{Call, Delivery}

-- a step is answered for its own process
pub of_process : (k : Content) (pid : Pid) (request : Request) (new : Content) (inverse : Inverse) (what : Answered) →
    IsStep k (step_of pid request) (replied new pid.0 inverse what) inverse new → IsStep k (step_of pid request) (replied new (process_of (step_of pid request)) inverse what) inverse new
of_process k pid request new inverse what is = subst (λ (p : ℕ). IsStep k (step_of pid request) (replied new p inverse what) inverse new) (sym (process_requested pid request)) is

-- it is none of the kernel's aborts
no_kernel_abort : (pid : Pid) (request : Request) → IsKernelAbort (step_of pid request) → ⊥
no_kernel_abort pid (Call call) is = is
no_kernel_abort pid (Delivery signo) is = is

-- a member's sys_xabort aborts
xabort_aborts : (k : Content) (step : Step) → IsXabort k step → is_abort (role_on (view_of k) step) ≡ true
unfolding view_of states_view
xabort_aborts k step (pid, same, marked) = ap (λ (s : Step). is_abort (role_on (view_of k) s)) same ∙ by (slot_at k.marks pid.0) marked
  where
    by : (slot : Option Mark) → is_some slot ≡ true → is_abort (kind_role (view_of k).table pid.0 Aborting (first_reply (view_of k) (Calls pid SysXabort)) slot) ≡ true
    by None e = cc
    by (Some m) e = refl

no_xabort : (k : Content) (step : Step) (R : Role) → role_on (view_of k) step ≡ R → is_abort R ≡ false → IsXabort k step → ⊥
no_xabort k step R role other is = let clash : true ≡ false = sym (xabort_aborts k step is) ∙ ap is_abort role ∙ other in cc

module _ (laws : StepLaws) (k : Content) (is : IsContent k) (pid : Pid) (request : Request) where
  -- a step that is let through and not made is refused for the reason of its rule
  pub refused_late : (role : StepRole) → IsLetThrough k pid request role → (R : Role) (E : Event) → role_on (view_of k) (step_of pid request) ≡ R → event_on (view_of k) (step_of pid request) ≡ E →
      is_abort R ≡ false → plain_reply called_by_status R E (now_of k) ≡ reply_of E (now_of k) → (why : Refusal) → IsWhyNot E (now_of k) why →
      (new : Content) → new ≡ k → IsRefused k (step_of pid request) why new
  refused_late role through R E is_role is_event other plain why tells new same = (same, by tells)
    where
      is_answer : answer (view_of k) (step_of pid request) ≡ reply_of E (now_of k)
      is_answer = answered laws k is pid request role through R E is_role is_event ∙ plain

      by : IsWhyNot E (now_of k) why →
          ((why ≡ NoMemory) × IsAccepted (answer (view_of k) (step_of pid request)) × (IsXabort k (step_of pid request) → ⊥) × (IsKernelAbort (step_of pid request) → ⊥)
          ⊎ (answer (view_of k) (step_of pid request) ≡ No why) × (why ≢ NoMemory))
      by (inl h) = inl (h.0, subst IsAccepted (sym is_answer) h.1, no_xabort k (step_of pid request) R is_role other, no_kernel_abort pid request)
      by (inr h) = inr (is_answer ∙ h.0, h.1)

  -- what is refused early is answered so
  early_answer : (why : Refusal) → refusal (view_of k) pid.0 (step_of pid request) ≡ Some why → answer (view_of k) (step_of pid request) ≡ No why
  early_answer why e = answer_requested (view_of k) pid request ∙ ap (λ (x : Option Refusal). unless_refused x (plain_reply called_by_status (role_on (view_of k) (step_of pid request)) (event_on (view_of k) (step_of pid request)) (present (view_of k)))) e

  pub refused_early : (why : Refusal) → early_refusal (view_of k) pid.0 (step_of pid request) ≡ Some why → (new : Content) → new ≡ k → IsRefused k (step_of pid request) why new
  refused_early why e new same = (same, inr (early_answer why whole, λ memory. never_memory (e ∙ ap Some memory)))
    where
      whole : refusal (view_of k) pid.0 (step_of pid request) ≡ Some why
      whole = laws.early (view_of k) pid.0 (step_of pid request) ∙ ap (λ (x : Option Refusal). option_or x (busy (starter_in_way (view_of k) (event_on (view_of k) (step_of pid request))))) e

      one : (b : Bool) (x y : Option Refusal) → (x ≡ Some NoMemory → ⊥) → (y ≡ Some NoMemory → ⊥) → (if b then x else y) ≡ Some NoMemory → ⊥
      one true x y first rest h = first h
      one false x y first rest h = rest h

      never_memory : early_refusal (view_of k) pid.0 (step_of pid request) ≡ Some NoMemory → ⊥
      never_memory =
          one (not (is_there (view_of k) pid.0)) (Some NoProcess) _ (λ h. cc)
          (one (not (is_running ((present (view_of k)).procs pid.0))) (Some NotRunning) _ (λ h. cc)
          (one (has_bad_number (view_of k).table.width (step_of pid request)) (Some BadNumber) _ (λ h. cc)
          (one (has_number_in_use (present (view_of k)) (step_of pid request)) (Some NumberTaken) _ (λ h. cc)
          (one (is_doomed_at (view_of k) ((view_of k).table.marks pid.0)) (Some Doomed) _ (λ h. cc)
          (one (is_parked ((view_of k).table.marks pid.0)) (Some Parked) _ (λ h. cc)
          (one (is_stopped_by_kill (present (view_of k)) pid.0 (step_of pid request)) (Some KillPending) None (λ h. cc) (λ h. cc)))))))

  module _ (early : None ≡ early_refusal (view_of k) pid.0 (step_of pid request)) where
    passes : (is_running ((present (view_of k)).procs pid.0) ≡ true) × (has_bad_number (view_of k).table.width (step_of pid request) ≡ false)
    passes = no_reason (is_there (view_of k) pid.0) (is_running ((present (view_of k)).procs pid.0)) (has_bad_number (view_of k).table.width (step_of pid request)) _ (sym early)

    -- where there is no early reason the process runs, and the step chooses good numbers
    pub runs_early : IsRunning (slot_at k.parts.procs pid.0)
    runs_early = running_in (slot_at k.parts.procs pid.0) (ap (λ (S : State). is_running (S.procs pid.0)) (sym (now_seen laws k is)) ∙ passes.0)

    pub numbers_early : has_bad_number (length k.parts.procs) (step_of pid request) ≡ false
    unfolding view_of states_view
    numbers_early = ap (λ (w : ℕ). has_bad_number w (step_of pid request)) (sym is.shaped.marks) ∙ passes.1

    -- and it is refused where somebody is in the way
    pub refused_busy : (found : Option Pid) (first : Pid) → found ≡ Some first → option_map number_of found ≡ starter_in_way (view_of k) (event_on (view_of k) (step_of pid request)) →
        (new : Content) → new ≡ k → IsRefused k (step_of pid request) (Busy first) new
    refused_busy found first is_first held new same = (same, inr (early_answer (Busy first) whole, λ memory. cc))
      where
        whole : refusal (view_of k) pid.0 (step_of pid request) ≡ Some (Busy first)
        whole = laws.early (view_of k) pid.0 (step_of pid request) ∙ sym (λ j. option_or (early j) (busy (held j))) ∙ ap (λ (x : Option Pid). busy (option_map number_of x)) is_first
