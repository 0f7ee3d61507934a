-- The laws of logs and kept signals, one statement a name, and the laws of tx_laws and tx_change
-- that they use. Own rules.
use Rattle.std.specs.Prelude.{◌≡◌, ◌≤◌, ℕ, false, List, [], Option, Some, if◌then◌else◌, ◌==◌, length}
use Rattle.tx_base.specs.Slots.{slot_at}
use Rattle.tx_base.specs.declared.names.Pid.{Pid}
use Rattle.tx_base.specs.declared.steps.Step.{Step}
use Rattle.tx_change.specs.Exchange.{AreNamed, applied, undone, reverted}
use Rattle.tx_change.specs.Laws.{AppliedAppended, ChangedAppended, ChangesState, ChangesStateInTurn, ListNamesItsObjects, NamedAppended, RevertThenApply, SizesStay, TwiceIsNothing}
use Rattle.tx_change.specs.States.{state_of}
use Rattle.tx_change.specs.declared.change.Change.{Change}
use Rattle.tx_change.specs.declared.parts.Parts.{Parts}
use Rattle.tx_kernel.specs.Actors.{CountsHeld, inside_of}
use Rattle.tx_kernel.specs.Acts.{Makes}
use Rattle.tx_kernel.specs.Plans.{AreAmong, held_after}
use Rattle.tx_kernel.specs.declared.inside.Inside.{Inside}
use Rattle.tx_kernel.specs.declared.planned.Planned.{Planned}
use Rattle.tx_laws.specs.Fits.{Fits, FitsWithin, Passes}
use Rattle.tx_laws.specs.Laws.{AcceptedStepsFit, RolesKeepSound, StartIsSound}
use Rattle.tx_laws.specs.LawsOfEvents.{ActorIsObject, OtherObjectsStay, OthersGetSendsAlone}
use Rattle.tx_laws.specs.LawsOfTwoStates.{DoomIsKept, StarterInWayIsOfStates, InWayIsOfStates, StatesFollowRole, SameStatesSameView, StartHasItsView, TwoAnswersAreOfStarter}
use Rattle.tx_laws.specs.TwoStates.{made, states_view}
use Rattle.tx_model.specs.Answer.{answer, IsAccepted}
use Rattle.tx_model.specs.Events.{Event, process_of, objects}
use Rattle.tx_model.specs.Membership.{Progress, Role, Within}
use Rattle.tx_model.specs.Posts.{post_answer, target_after}
use Rattle.tx_model.specs.SignalSets.{kill_signo, is_in_set}
use Rattle.tx_model.specs.State.{Object, Proc, Process, Sending, State, has_object}
use Rattle.tx_model.specs.View.{view, starter_in_way, in_way, has_two_answers, is_doomed, least, next, role_on, event_on}
use Rattle.tx_model.specs.Words.{next_by}
use Rattle.tx_signal.specs.Parts.{PendingView}
use Rattle.tx_txn.specs.Content.{Txn, LogKernel, IsKept, OthersHoldNothing, led_by, two_states_of, start_content, starter_differs, stands_in_way}
use Rattle.tx_txn.specs.Faces.{face_of, pending_in, pending_after, answer_at, queued_after}
use Rattle.tx_txn.specs.Logs.{newest_first, pending_or, with_pending_at}
use Rattle.tx_txn.specs.Steps.{AgreeBut, IsNext, LeadsBack, Logs, next_content}

-- in each role that fits the event, the next content has the next view
abbrev pub ContentFollowsRole : Type 0
ContentFollowsRole =
    (role : Role) (event : Event) (process : ℕ) (new : List Change) (content : LogKernel) →
    IsKept content → Passes role event (states_view (two_states_of content))
    → Fits role event process (states_view (two_states_of content)) →
    Logs role event new content →
    states_view (two_states_of (next_content role event process new content))
    ≡ next_by role event process (states_view (two_states_of content))

-- and what holds for every content holds for it
abbrev pub ContentIsKept : Type 0
ContentIsKept =
    (role : Role) (event : Event) (process : ℕ) (new : List Change) (content : LogKernel) →
    IsKept content → Passes role event (states_view (two_states_of content))
    → Fits role event process (states_view (two_states_of content)) →
    Logs role event new content →
    OthersHoldNothing (next_content role event process new content)
    → IsKept (next_content role event process new content)

-- after an accepted step the next content has the next view, and is kept
abbrev pub ContentFollowsStep : Type 0
ContentFollowsStep = (content : LogKernel) (step : Step) (new : List Change) →
    IsKept content → IsAccepted (answer (states_view (two_states_of content)) step) →
    Logs (role_on (states_view (two_states_of content)) step)
    (event_on (states_view (two_states_of content)) step) new content →
    IsNext
    (next_content (role_on (states_view (two_states_of content)) step)
    (event_on (states_view (two_states_of content)) step) (process_of step) new content)
    (next (states_view (two_states_of content)) step)

-- what exchanges of the step's objects took leads the state back, except what the transaction of s
-- holds
abbrev pub StepLeadsBack : Type 0
StepLeadsBack =
    (held later : ℕ → List Sending) (s : ℕ) (objects : List Object) (after : Parts)
    (kept : List Change) →
    AreNamed after kept → AreAmong objects kept → ((n : ℕ) → (n == s) ≡ false → later n ≡ held n) →
    LeadsBack s objects (newest_first kept) (state_of later after)
    (state_of held (undone after kept))

-- a log that was led back, with the kept pending part put at the starter, leads the state back by
-- the transaction
abbrev pub LogLeadsBack : Type 0
LogLeadsBack = (held : ℕ → List Sending) (parts : Parts) (s : ℕ) (log : List Change) (txn : Txn) →
    AreNamed parts log → txn.log ≡ newest_first log → 1 ≤ s → s ≤ length parts.procs →
    state_of (λ n. if n == s then [] else held n) (with_pending_at s txn.pending (undone parts log))
    ≡ led_by s (Some txn) (state_of held parts)

-- with the pending parts exchanged once more, and the log led forward again, the parts are as they
-- were
abbrev pub LogGoesForward : Type 0
LogGoesForward =
    (parts : Parts) (s : ℕ) (log : List Change) (pending : PendingView) → AreNamed parts log → 1 ≤ s
    → s ≤ length parts.procs →
    applied
    (with_pending_at s (pending_or pending (slot_at (undone parts log).procs s))
    (with_pending_at s pending (undone parts log))) (reverted parts log)
    ≡ parts

-- what is made on the parts changes their state as its event does
abbrev pub EventIsMade : Type 0
EventIsMade =
    (held : ℕ → List Sending) (before after : Parts) (pid : Pid) (inside : Option Inside)
    (event : Event) (log now : List Change) (planned : Planned) →
    Makes before pid inside event log now after planned → CountsHeld inside held →
    made event (state_of held before) (state_of held before)
    ≡ state_of (held_after (inside_of inside) planned.sends held) after

-- and if a member made it, it is logged as a step inside the transaction must be
abbrev pub EventIsLogged : Type 0
EventIsLogged =
    (content : LogKernel) (held : ℕ → List Sending) (before after : Parts) (pid : Pid)
    (inside : Inside) (event : Event) (log now : List Change) (planned : Planned)
    (part : Progress) (process : ℕ)
    (made : Makes before pid (Some inside) event log now after planned) →
    content.now ≡ state_of held before → CountsHeld (Some inside) held →
    FitsWithin inside.starter.0 part event process (states_view (two_states_of content)) →
    Logs (Within inside.starter.0 part) event (newest_first made.kept) content

-- a live transaction is doomed if SIGKILL is kept as pending
abbrev pub DoomIsPending : Type 0
DoomIsPending =
    (content : LogKernel) (starter : ℕ) (txn : Txn) → IsKept content
    → content.txns starter ≡ Some txn →
    is_doomed (states_view (two_states_of content)) starter
    ≡ is_in_set txn.pending.standard kill_signo

-- whether an event that does not name a live starter has two answers there follows from the faces
-- and the lengths of the queues
abbrev pub TwoAnswersAreOfFaces : Type 0
TwoAnswersAreOfFaces =
    (content : LogKernel) (event : Event) (starter : ℕ) (txn : Txn) → IsKept content
    → content.txns starter ≡ Some txn →
    has_object (Proc starter) (objects event content.now) ≡ false →
    has_two_answers (states_view (two_states_of content)) event starter
    ≡ starter_differs content event starter txn

-- who is in the way of an event follows from the owners, the members, the faces and the lengths of
-- the queues
abbrev pub InWayIsOfFaces : Type 0
InWayIsOfFaces = (content : LogKernel) (event : Event) (starter : ℕ) → IsKept content →
    in_way (states_view (two_states_of content)) event starter
    ≡ stands_in_way content event starter (content.txns starter)

-- the least of these
abbrev pub StarterInWayIsOfFaces : Type 0
StarterInWayIsOfFaces = (content : LogKernel) (event : Event) → IsKept content →
    starter_in_way (states_view (two_states_of content)) event
    ≡ least (λ s. stands_in_way content event s (content.txns s)) content.table.width

-- the content at the start has the view of the empty history
abbrev pub StartContentHasItsView : Type 0
StartContentHasItsView =
    (start : State) → states_view (two_states_of (start_content start)) ≡ view start []

-- if nothing is held, what holds for every content holds for that at the start
abbrev pub StartContentIsKept : Type 0
StartContentIsKept = (start : State) → ((s : ℕ) → start.held s ≡ []) → IsKept (start_content start)

-- an event leaves a process that is no object of it as it was, except what is pending there
abbrev pub EventLeavesRest : Type 0
EventLeavesRest =
    (event : Event) (state : State) (n : ℕ) → has_object (Proc n) (objects event state) ≡ false
    → AgreeBut n (made event state state) state (Proc n)

-- what a post leaves as pending at its target follows from the face and what was pending
abbrev pub PostLeavesPending : Type 0
PostLeavesPending = (sending : Sending) (target : Option Process) →
    pending_in (target_after sending target)
    ≡ pending_after sending (face_of target) (pending_in target)

-- it leaves the face as it was
abbrev pub PostLeavesFace : Type 0
PostLeavesFace =
    (sending : Sending) (target : Option Process)
    → face_of (target_after sending target) ≡ face_of target

-- how a post is answered follows from the face and the length of the queue
abbrev pub PostIsAnsweredByFace : Type 0
PostIsAnsweredByFace = (sending : Sending) (target : Option Process) →
    post_answer sending target
    ≡ answer_at sending (face_of target) (length (pending_in target).queued)

-- and so does how many are queued then
abbrev pub PostLeavesQueued : Type 0
PostLeavesQueued = (sending : Sending) (target : Option Process) →
    length (pending_in (target_after sending target)).queued
    ≡ queued_after sending (face_of target) (length (pending_in target).queued)

-- what the laws of contents use
pub record RoleLaws : Type 0 where
  pub start : StartHasItsView
  pub start_sound : StartIsSound
  pub fits : AcceptedStepsFit
  pub sound : RolesKeepSound
  pub same : SameStatesSameView
  pub role : StatesFollowRole
  pub doom : DoomIsKept
  pub two_answers : TwoAnswersAreOfStarter
  pub in_way : InWayIsOfStates
  pub starter_in_way : StarterInWayIsOfStates
  pub actor : ActorIsObject
  pub parts : OtherObjectsStay
  pub sends : OthersGetSendsAlone
  pub appended : ChangedAppended
  pub elsewhere : ListNamesItsObjects

-- what the laws of logs use
pub record LogLaws : Type 0 where
  pub one : ChangesState
  pub in_turn : ChangesStateInTurn
  pub applied : AppliedAppended
  pub named : NamedAppended
  pub sizes : SizesStay
  pub twice : TwiceIsNothing
  pub forward : RevertThenApply
