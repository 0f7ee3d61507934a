-- The two answers of a step, by those of its event.
use Rattle.std.proofs.Common.{◌≡◌, ℕ, Bool, true, false, not, List, [], ◌∷◌, ℤ, Option, Some, None, is_some, option_map, Bor, if◌then◌else◌, ◌==◌, refl, sym, ap, subst, ◌∙◌}
use Rattle.std.specs.Option.{option_copied}
use Rattle.std.specs.Ordering.{int_eq}
use Rattle.tx_base.specs.Slots.{slot_at}
use Rattle.tx_base.specs.declared.names.Pid.{Pid}
use Rattle.tx_base.specs.declared.steps.Step.{Step}
use Rattle.tx_base.specs.declared.steps.Step.TheVariants.{KernelAbort}
use Rattle.tx_laws.specs.Footprints.{FootprintIsOfEvent, is_abort}
use Rattle.tx_laws.specs.LawsOfTwoStates.{PresentIsNow}
use Rattle.tx_laws.specs.TwoStates.{states_view}
use Rattle.tx_content.specs.Content.{content_of, now_of, txn_of, view_of}
use Rattle.tx_content.specs.Made.{IsRunning}
use Rattle.tx_content.specs.declared.content.BoxedTxn.{BoxedTxn}
use Rattle.tx_content.specs.declared.content.Content.{Content}
use Rattle.tx_model.specs.Answer.{is_running}
use Rattle.tx_model.specs.Effects.{send_answers}
use Rattle.tx_model.specs.Events.{Event, effect, process_of}
use Rattle.tx_model.specs.Footprints.{footprint}
use Rattle.tx_model.specs.History.{event_footprint, just}
use Rattle.tx_model.specs.Membership.{is_live}
use Rattle.tx_model.specs.State.{Proc, Sending, State, has_object}
use Rattle.tx_model.specs.View.{View, differs_at, event_on, present, role_on}
use Rattle.tx_proc.specs.Parts.{process_in}
use Rattle.tx_step.proofs.StepFootprints.{told}
use Rattle.tx_step.proofs.Taken.{process_requested}
use Rattle.tx_step.proofs.WaysTold.{aborted, delivery_no_abort}
use Rattle.tx_step.proofs.WholeContents.{now_seen, slot_seen}
use Rattle.tx_step.specs.Contents.{IsContent}
use Rattle.tx_step.specs.Requests.{step_of}
use Rattle.tx_step.specs.Roles.{role_as}
use Rattle.tx_step.specs.TwoAnswers.{answered_twice, difference_at, first_difference, two_answers, DifferencesAreFound}
use Rattle.tx_step.specs.declared.differing.TwoAnswers.{TwoAnswers}
use Rattle.tx_step.specs.declared.request.Request.{Request}
use Rattle.tx_step.specs.declared.request.Request.TheVariants.{Call, Delivery}
use Rattle.tx_step.specs.declared.roles.StepRole.TheVariants as the
use Rattle.tx_txn.specs.Content.{IsKept}
use Rattle.tx_txn.specs.Marks.{table_at}

-- a list has a first difference exactly where the definitions say that it has one
found_or_none : (t : ℕ) (ms : List Sending) (xs ys : List ℤ) → is_some (first_difference t ms xs ys) ≡ differs_at t ms xs ys
unfolding first_difference differs_at
found_or_none t [] xs ys = refl
found_or_none t (m ∷ ms) [] ys = refl
found_or_none t (m ∷ ms) (x ∷ xs) [] = refl
found_or_none t (m ∷ ms) (x ∷ xs) (y ∷ ys) = by (m.target == t) (int_eq x y) (found_or_none t ms xs ys)
  where
    by : (a b : Bool) → is_some (first_difference t ms xs ys) ≡ differs_at t ms xs ys →
        is_some (if a then (if b then first_difference t ms xs ys else Some (answered_twice m x y)) else first_difference t ms xs ys)
        ≡ (if a then (if b then differs_at t ms xs ys else true) else differs_at t ms xs ys)
    by true true rest = rest
    by true false rest = refl
    by false b rest = rest

pub differences_found : DifferencesAreFound
differences_found V event s =
    let f = effect event (present V) in found_or_none s f.sends (send_answers f (present V)) (send_answers f (V.without (just s)))

module _ (V : View) (step : Step) (s : ℕ) where
  named : Bool
  named = has_object (Proc s) (footprint V.table step (present V))

  runs : Bool
  runs = is_running ((present V).procs (process_of step))

  -- a process without a live transaction has none, nor has one that the step names
  pub dead_none : is_live V.table s ≡ false → two_answers V step s ≡ None
  dead_none dead = rw dead refl

  pub named_none : is_live V.table s ≡ true → has_object (Proc s) (footprint V.table step (present V)) ≡ true → two_answers V step s ≡ None
  named_none live there = rw live (rw there refl)

  module _ (live : is_live V.table s ≡ true) (out : has_object (Proc s) (footprint V.table step (present V)) ≡ false) where
    -- nor a step whose process does not run
    pub idle_none : is_running ((present V).procs (process_of step)) ≡ false → two_answers V step s ≡ None
    idle_none idle = rw live (rw out (rw idle refl))

    -- another has those of its event
    pub answers_made : is_running ((present V).procs (process_of step)) ≡ true → two_answers V step s ≡ difference_at V (event_on V step) s
    answers_made run = rw live (rw out (rw run refl))

-- the kernel's abort sends nothing
pub kernel_none : (V : View) (starter : Pid) (s : ℕ) → two_answers V (KernelAbort starter) s ≡ None
unfolding effect first_difference
kernel_none V starter s =
    by (is_live V.table s) (has_object (Proc s) (footprint V.table (KernelAbort starter) (present V))) (is_running ((present V).procs starter.0))
  where
    no_answers : Option TwoAnswers
    no_answers = None

    by : (a b c : Bool) → (if not a then None else (if b then None else (if not c then None else None))) ≡ no_answers
    by false b c = refl
    by true true c = refl
    by true false true = refl
    by true false false = refl

-- whether the transaction of s is live, what is found in its slot tells
pub live_told : (k : Content) (s : ℕ) (found : Option (Bor BoxedTxn)) (b : Bool) → IsKept (content_of k) → option_copied found ≡ slot_at k.txns s → is_some found ≡ b → is_live (view_of k).table s ≡ b
unfolding view_of states_view
live_told k s found b kept there is = sym (kept.live s) ∙ ap (λ (slot : Option BoxedTxn). is_some (option_map txn_of slot)) (sym there) ∙ by found ∙ is
  where
    by : (x : Option (Bor BoxedTxn)) → is_some (option_map txn_of (option_copied x)) ≡ is_some x
    by None = refl
    by (Some boxed) = refl

-- a starter that is live by the view is so by the marks
pub live_marked : (k : Content) (s : ℕ) → is_live (view_of k).table s ≡ true → is_live (table_at k.marks) s ≡ true
unfolding view_of states_view
live_marked k s live = live

-- whether the process of a step runs, its slot tells
pub runs_seen : (k : Content) (pid : Pid) (request : Request) → PresentIsNow → is_running ((present (view_of k)).procs (process_of (step_of pid request))) ≡ is_running (process_in (slot_at k.parts.procs pid.0))
runs_seen k pid request seen = ap (λ (p : ℕ). is_running ((present (view_of k)).procs p)) (process_requested pid request) ∙ ap is_running (slot_seen seen k pid)

module _ (k : Content) (pid : Pid) (request : Request) (s : ℕ) where
  -- what the step of a process that runs does not name, its event does not, unless that is an abort's
  pub not_named : FootprintIsOfEvent → PresentIsNow → IsRunning (slot_at k.parts.procs pid.0) → is_abort (role_on (view_of k) (step_of pid request)) ≡ false →
      has_object (Proc s) (footprint (view_of k).table (step_of pid request) (present (view_of k))) ≡ false →
      has_object (Proc s) (event_footprint (table_at k.marks) (event_on (view_of k) (step_of pid request)) (now_of k)) ≡ false
  unfolding view_of states_view
  not_named of_event seen running no_abort out =
      sym (told of_event seen k (step_of pid request) (Proc s) (subst (λ (p : ℕ). IsRunning (slot_at k.parts.procs p)) (sym (process_requested pid request)) running) no_abort refl)
      ∙ ap (λ (S : State). has_object (Proc s) (footprint (table_at k.marks) (step_of pid request) S)) (sym (now_seen seen k)) ∙ out

  -- an abort by a member sends nothing
  pub abort_none : (starter : Pid) → IsContent k → role_as pid.0 (the.Aborts starter) ≡ role_on (view_of k) (step_of pid request) →
      difference_at (view_of k) (event_on (view_of k) (step_of pid request)) s ≡ None
  unfolding effect first_difference
  abort_none starter is role = by request role
    where
      by : (r : Request) → role_as pid.0 (the.Aborts starter) ≡ role_on (view_of k) (step_of pid r) → difference_at (view_of k) (event_on (view_of k) (step_of pid r)) s ≡ None
      by (Call call) is_told = ap (λ (E : Event). difference_at (view_of k) E s) (aborted k pid call.now starter is is_told).1
      by (Delivery signo) is_told = let clash : true ≡ false = ap is_abort is_told ∙ delivery_no_abort k pid signo in cc
