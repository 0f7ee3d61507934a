-- The set of a step's footprint is what the event of the step names.
use Rattle.std.proofs.Common.{◌≡◌, Bool, true, false, length, Option, Some, None, if◌then◌else◌, refl, sym, ap, subst, ◌∙◌}
use Rattle.std.proofs.lemmas.Bool.{both_ways}
use Rattle.tx_base.specs.Slots.{slot_at}
use Rattle.tx_base.specs.declared.steps.Step.{Step}
use Rattle.tx_step.proofs.WholeContents.{now_seen}
use Rattle.tx_laws.specs.Footprints.{FootprintIsOfEvent, is_abort, is_shared}
use Rattle.tx_laws.specs.LawsOfTwoStates.{PresentIsNow}
use Rattle.tx_laws.specs.TwoStates.{states_view}
use Rattle.tx_content.specs.Content.{now_of, view_of, IsShaped}
use Rattle.tx_content.specs.Insides.{IsFootprint}
use Rattle.tx_content.specs.Made.{IsRunning}
use Rattle.tx_content.specs.declared.content.Content.{Content}
use Rattle.tx_model.specs.Answer.{is_running}
use Rattle.tx_model.specs.Events.{process_of}
use Rattle.tx_model.specs.Footprints.{footprint}
use Rattle.tx_model.specs.History.{event_footprint}
use Rattle.tx_model.specs.Membership.{Table}
use Rattle.tx_model.specs.State.{Object, State, has_object}
use Rattle.tx_model.specs.View.{event_on, present, role_on}
use Rattle.tx_proc.specs.Parts.{process_in}
use Rattle.tx_proc.specs.declared.proc.Proc.{Proc as TheProc}
use Rattle.tx_reserve.specs.Footprints.{IsSetOf, table_of}
use Rattle.tx_reserve.specs.Laws.{WithinIsSmall, is_within}
use Rattle.tx_reserve.specs.Objects.{is_in, is_small}
use Rattle.tx_reserve.specs.declared.objects.Objects.{Objects}
use Rattle.tx_txn.specs.Marks.{table_at}

-- where the footprint has objects of numbers that there are alone
abbrev pub HasNumbers : Content → Step → Type 0
HasNumbers k step = (o : Object) → has_object o (footprint (table_of k.parts k.marks) step (now_of k)) ≡ true → is_within (length k.parts.procs) o ≡ true

-- an object that no set may have is in no such footprint
set_exact : (b : Bool) (x y : Bool) → x ≡ (if b then y else false) → (y ≡ true → b ≡ true) → x ≡ y
set_exact true x y is small = is
set_exact false x true is small = absurd (both_ways false refl (small refl))
set_exact false x false is small = is

-- the process runs
pub runs : (slot : Option TheProc) → IsRunning slot → is_running (process_in slot) ≡ true
runs None running = absurd running
runs (Some proc) running = rw running refl

pub same_tables : (k : Content) → IsShaped k → table_of k.parts k.marks ≡ table_at k.marks
same_tables k shaped = λ j. record { width = sym shaped.marks j; marks = slot_at k.marks }

-- the set of a step's footprint, by the parts and the marks, is that by the view
pub set_seen : PresentIsNow → (k : Content) (step : Step) (set : Objects) → IsShaped k → IsSetOf set (footprint (table_of k.parts k.marks) step (now_of k)) →
    IsSetOf set (footprint (view_of k).table step (present (view_of k)))
unfolding view_of states_view
set_seen seen k step set shaped is =
    subst (λ (S : State). IsSetOf set (footprint (table_at k.marks) step S)) (sym (now_seen seen k))
    (subst (λ (t : Table). IsSetOf set (footprint t step (now_of k))) (same_tables k shaped) is)

-- outside of aborts its objects are those of its event
pub told : FootprintIsOfEvent → PresentIsNow → (k : Content) (step : Step) (o : Object) → IsRunning (slot_at k.parts.procs (process_of step)) →
    is_abort (role_on (view_of k) step) ≡ false → is_shared o ≡ true →
    has_object o (footprint (table_at k.marks) step (now_of k)) ≡ has_object o (event_footprint (table_at k.marks) (event_on (view_of k) step) (now_of k))
unfolding view_of states_view
told of_event seen k step o running no_abort shared =
    let there : is_running ((present (view_of k)).procs (process_of step)) ≡ true
    = ap (λ (S : State). is_running (S.procs (process_of step))) (now_seen seen k) ∙ runs (slot_at k.parts.procs (process_of step)) running in
    ap (λ (S : State). has_object o (footprint (table_at k.marks) step S)) (sym (now_seen seen k))
    ∙ of_event (view_of k) step o there no_abort shared
    ∙ ap (λ (S : State). has_object o (event_footprint (table_at k.marks) (event_on (view_of k) step) S)) (now_seen seen k)

pub footprint_told : FootprintIsOfEvent → PresentIsNow → WithinIsSmall → (k : Content) (step : Step) (set : Objects) → IsShaped k → IsRunning (slot_at k.parts.procs (process_of step)) →
    is_abort (role_on (view_of k) step) ≡ false → HasNumbers k step → IsSetOf set (footprint (table_of k.parts k.marks) step (now_of k)) →
    IsFootprint k (event_on (view_of k) step) set
footprint_told of_event seen small k step set shaped running no_abort numbers is o shared =
    set_exact (is_small o) (is_in set o) (has_object o (footprint (table_of k.parts k.marks) step (now_of k))) (is.each o)
    (λ h. small (length k.parts.procs) o shaped.few (numbers o h))
    ∙ ap (λ (t : Table). has_object o (footprint t step (now_of k))) (same_tables k shaped)
    ∙ told of_event seen k step o running no_abort shared
