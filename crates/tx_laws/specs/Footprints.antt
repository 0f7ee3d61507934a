-- How the footprint of a step depends on its event, and shows who is in the way of the step. Own
-- rules.
use Rattle.std.specs.Prelude.{◌≡◌, ℕ, Bool, true, false, None, if◌then◌else◌}
use Rattle.tx_base.specs.declared.steps.Step.{Step}
use Rattle.tx_base.specs.declared.steps.Step.TheVariants.{Call as Calls, Deliver, KernelAbort}
use Rattle.tx_model.specs.State.{State, Object, Proc, Desc, Pipe, Held, has_object}
use Rattle.tx_model.specs.Events.{Event, actor, process_of}
use Rattle.tx_model.specs.Membership.{Table, is_member_of, is_live, Role, Outside, Within, Commits, Aborts}
use Rattle.tx_model.specs.History.{event_footprint}
use Rattle.tx_model.specs.Footprints.{footprint}
use Rattle.tx_model.specs.View.{View, present, role_on, event_on, some_object, has_two_answers, least, starter_in_way}
use Rattle.tx_model.specs.Words.{IsClear}
use Rattle.tx_model.specs.Answer.{is_running}
use Rattle.tx_laws.specs.Sound.{IsSound}

-- whether processes share the object: what a transaction holds is its own
abbrev pub is_shared : Object → Bool
is_shared (Proc n) = true
is_shared (Desc n) = true
is_shared (Pipe n) = true
is_shared (Held s) = false

abbrev pub is_abort : Role → Bool
is_abort Outside = false
is_abort (Within s progress) = false
is_abort (Commits s) = false
is_abort (Aborts s status) = true

-- the footprint of a step of a process that runs, which is no abort: what its event names, and the
-- targets of its posts
abbrev pub FootprintIsOfEvent : Type 0
FootprintIsOfEvent =
    (view : View) (step : Step) (object : Object)
    → is_running ((present view).procs (process_of step)) ≡ true
    → is_abort (role_on view step) ≡ false
    → is_shared object ≡ true
    → has_object object (footprint view.table step (present view))
    ≡ has_object object (event_footprint view.table (event_on view step) (present view))

-- what a transaction holds is in the footprint of no step
abbrev pub FootprintIsShared : Type 0
FootprintIsShared =
    (table : Table) (step : Step) (state : State) (starter : ℕ)
    → has_object (Held starter) (footprint table step state) ≡ false

-- whether the step is a call or a delivery: nobody is ever in the way of the kernel's abort
abbrev pub is_asked : Step → Bool
is_asked (Calls p call) = true
is_asked (Deliver p signo) = true
is_asked (KernelAbort s) = false

-- whether the live transaction of s, of which its process is no member, is in the way of a step, by
-- the step's footprint
abbrev pub is_in_way : View → Step → ℕ → Bool
is_in_way view step s =
    let is_reserved = some_object (footprint view.table step (present view)) (view.reserved s) in
    let blocks = if is_reserved then true else has_two_answers view (event_on view step) s in
    if is_live view.table s
    then (if is_member_of view.table s (process_of step) then false else blocks)
    else false

-- a busy step names the least starter that is in its way
abbrev pub StarterInWayIsOfStep : Type 0
StarterInWayIsOfStep =
    (view : View) (step : Step) → IsSound view → is_asked step ≡ true
    → is_running ((present view).procs (process_of step)) ≡ true →
    starter_in_way view (event_on view step) ≡ least (is_in_way view step) view.table.width

-- if none is named, nobody is in the way
abbrev pub NoStarterIsClear : Type 0
NoStarterIsClear =
    (view : View) (event : Event) → IsSound view → starter_in_way view event ≡ None
    → IsClear view event

-- if nobody is in the way, the process is a member of each transaction that reserved what the event
-- names
abbrev pub ClearIsOfMembers : Type 0
ClearIsOfMembers =
    (view : View) (event : Event) (object : Object) (starter : ℕ) → IsSound view
    → IsClear view event →
    has_object object (event_footprint view.table event (present view)) ≡ true
    → view.reserved starter object ≡ true → is_member_of view.table starter (actor event) ≡ true
