-- The signals that are pending at a process, and the events that do not look at them. Own rules.
use Rattle.std.specs.Prelude.{◌≡◌, ℕ, Bool, true, false, not, ◌&&◌, List, Option, Some, None, is_some, if◌then◌else◌, ◌==◌}
use Rattle.tx_model.specs.State.{Process, Queued, State, SetProc, write_one}
use Rattle.tx_model.specs.Events.{Event, Do, Note, Commit, process_of, effect, objects, after, reply_of}
use Rattle.tx_laws.specs.OneMoment.{looks_at_signals, is_sent_to}

-- what is pending at a process: the standard signals as a set, and the queue of realtime ones
pub record Signals : Type 0 where
  pub pending : ℕ
  pub queued : List Queued

-- the process with these signals pending in place of its own; one that has ended has none
abbrev pub resignalled : Signals → Process → Process
resignalled g q =
    if is_some q.status then q else record q { pending = g.pending; queued = g.queued }

abbrev pub resignalled_if : Signals → Option Process → Option Process
resignalled_if g None = None
resignalled_if g (Some q) = Some (resignalled g q)

-- the state in which these signals are pending at process s
abbrev pub with_signals : ℕ → Signals → State → State
with_signals s g S = write_one (SetProc s (resignalled_if g (S.procs s))) S

-- the event is not one in which process s looks at its signals
abbrev pub overlooks : ℕ → Event → Bool
overlooks s (Do step inside) = not (process_of step == s && looks_at_signals step)
overlooks s (Note p r) = true
overlooks s (Commit t ev) = overlooks s ev

-- an event that looks at no signals of process s, which exists, and sends it none
pub record LeavesSignals (s : ℕ) (event : Event) (state : State) : Type 0 where
  pub there : is_some (state.procs s) ≡ true
  pub overlooks : overlooks s event ≡ true
  pub unsent : is_sent_to s (effect event state).sends ≡ false

-- it does the same whatever is pending there, and leaves that as it is
abbrev pub UnseenSignalsStay : Type 0
UnseenSignalsStay =
    (event : Event) (state : State) (s : ℕ) (g : Signals) → LeavesSignals s event state →
    after event (with_signals s g state) ≡ with_signals s g (after event state)

-- it names the same objects
abbrev pub UnseenObjectsStay : Type 0
UnseenObjectsStay =
    (event : Event) (state : State) (s : ℕ) (g : Signals) → LeavesSignals s event state →
    objects event (with_signals s g state) ≡ objects event state

-- it sends the same and has the same reply
abbrev pub UnseenRepliesStay : Type 0
UnseenRepliesStay =
    (event : Event) (state : State) (s : ℕ) (g : Signals) → LeavesSignals s event state →
    ((effect event (with_signals s g state)).sends ≡ (effect event state).sends)
    × (reply_of event (with_signals s g state) ≡ reply_of event state)
