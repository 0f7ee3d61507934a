-- The laws of a kernel with two states, and an owner for each object. Own rules.
use Rattle.std.specs.Prelude.{◌≡◌, ℕ, true, false, [], Some, None}
use Rattle.tx_base.specs.declared.steps.Step.{Step}
use Rattle.tx_model.specs.SignalSets.{kill_signo}
use Rattle.tx_model.specs.State.{State, Object, Proc, has_object}
use Rattle.tx_model.specs.StateLaws.{EqualAt}
use Rattle.tx_model.specs.Events.{Event, process_of, objects}
use Rattle.tx_model.specs.Membership.{Role, is_live, empty_table}
use Rattle.tx_model.specs.View.{view, present, has_pending, is_doomed, has_two_answers, in_way, least, starter_in_way, next, role_on, event_on}
use Rattle.tx_model.specs.Words.{next_by}
use Rattle.tx_model.specs.Answer.{answer, IsAccepted}
use Rattle.tx_laws.specs.Fits.{Fits, Passes}
use Rattle.tx_laws.specs.Sound.{IsSound}
use Rattle.tx_laws.specs.TwoStates.{TwoStates, states_view, states_next}
use Rattle.tx_laws.specs.TwoAnswers.{sends_differ, states_in_way}

-- in each role that fits the event, the next two states have the next view
abbrev pub StatesFollowRole : Type 0
StatesFollowRole = (role : Role) (event : Event) (process : ℕ) (kernel : TwoStates) →
    IsSound (states_view kernel) → Passes role event (states_view kernel)
    → Fits role event process (states_view kernel) →
    states_view (states_next role event process kernel)
    ≡ next_by role event process (states_view kernel)

-- after an accepted step, the next two states have the next view
abbrev pub StatesFollowStep : Type 0
StatesFollowStep = (kernel : TwoStates) (step : Step) →
    IsSound (states_view kernel) → IsAccepted (answer (states_view kernel) step) →
    states_view
    (states_next (role_on (states_view kernel) step) (event_on (states_view kernel) step)
    (process_of step) kernel)
    ≡ next (states_view kernel) step

-- a kernel that is in the start state, and in which nobody owns anything, has the view of the empty
-- history
abbrev pub StartHasItsView : Type 0
StartHasItsView = (start : State) (kernel : TwoStates) →
    kernel.now ≡ start → ((object : Object) → kernel.owner object ≡ None)
    → kernel.table ≡ empty_table start.width → states_view kernel ≡ view start []

-- kernels with the same state now, the same owners and tables, and the same kept of each object
-- that has an owner, have the same view
abbrev pub SameStatesSameView : Type 0
SameStatesSameView = (one other : TwoStates) →
    one.now.width ≡ other.now.width → ((object : Object) → EqualAt one.now other.now object)
    → ((object : Object) → one.owner object ≡ other.owner object) →
    ((object : Object) (starter : ℕ) → one.owner object ≡ Some starter
    → EqualAt one.kept other.kept object)
    → one.table ≡ other.table →
    states_view one ≡ states_view other

-- the state is the first of the two
abbrev pub PresentIsNow : Type 0
PresentIsNow = (kernel : TwoStates) → present (states_view kernel) ≡ kernel.now

-- a live transaction is doomed if SIGKILL is pending in what is kept of its starter
abbrev pub DoomIsKept : Type 0
DoomIsKept =
    (kernel : TwoStates) (starter : ℕ) → IsSound (states_view kernel)
    → is_live kernel.table starter ≡ true →
    is_doomed (states_view kernel) starter ≡ has_pending kill_signo (kernel.kept.procs starter)

-- whether an event that does not name the starter has two answers there depends on the starter in
-- the two states and on the sends to it
abbrev pub TwoAnswersAreOfStarter : Type 0
TwoAnswersAreOfStarter =
    (kernel : TwoStates) (event : Event) (starter : ℕ) → IsSound (states_view kernel)
    → is_live kernel.table starter ≡ true →
    has_object (Proc starter) (objects event kernel.now) ≡ false
    → has_two_answers (states_view kernel) event starter ≡ sends_differ kernel event starter

-- who is in the way of an event follows from the two states, the owners and the table
abbrev pub InWayIsOfStates : Type 0
InWayIsOfStates =
    (kernel : TwoStates) (event : Event) (starter : ℕ) → IsSound (states_view kernel) →
    in_way (states_view kernel) event starter ≡ states_in_way kernel event starter

-- a busy step names the least of those that are so in its way
abbrev pub StarterInWayIsOfStates : Type 0
StarterInWayIsOfStates = (kernel : TwoStates) (event : Event) → IsSound (states_view kernel) →
    starter_in_way (states_view kernel) event
    ≡ least (states_in_way kernel event) kernel.table.width
