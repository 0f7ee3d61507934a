-- How every state is that a history leads to. Own rules.
use Rattle.std.specs.Prelude.{◌≡◌, ◌≢◌, ◌⊎◌, ℕ, ◌<◌, ◌≤◌, true, false, List, [], ◌∷◌, length, All, Option, Some, None, is_some}
use Rattle.tx_base.specs.Signals.{bits_of}
use Rattle.tx_base.specs.declared.limits.TheConstants.{PAGE_BYTES, PIPE_BYTES, FRAMES, QUEUED, LAST_ID, LAST_POINT, DESCRIPTIONS, DESCRIPTORS, PAGES, PIPES, SIGNALS, SLOTS}
use Rattle.tx_base.specs.declared.signals.Action.{Action}
use Rattle.tx_base.specs.declared.signals.Action.TheVariants.{Usual, Ignore, Catch}
use Rattle.tx_base.specs.declared.signals.SigSet.{SigSet}
use Rattle.tx_model.specs.SignalSets.{standard_signals, kill_signo, is_one_of, is_realtime, is_known, is_in_set}
use Rattle.tx_model.specs.Memory.{PageView}
use Rattle.tx_model.specs.State.{Ids, Process, Frame, Queued, Sending, Description, State, names_at, is_between}
use Rattle.tx_model.specs.Deliveries.{action_at}
use Rattle.tx_model.specs.Descriptors.{is_named, has_description}
use Rattle.tx_model.specs.Events.{Event, Do, Note, Commit}
use Rattle.tx_model.specs.Answer.{is_running}
use Rattle.tx_model.specs.Words.{has_bad_number}

-- each frame has all slots
abbrev pub AllSaved : List Frame → Type 0
AllSaved [] = Unit {0}
AllSaved (frame ∷ frames) = (length frame.registers.slots ≡ SLOTS) × AllSaved frames

-- the sizes of what a process has: slots, pages, descriptors, and actions for the signals 0 to 39
pub record HasSizes (q : Process) : Type 0 where
  pub slots : length q.registers.slots ≡ SLOTS
  pub pages : length q.memory ≡ PAGES
  pub descriptors : length q.descriptors ≡ DESCRIPTORS
  pub actions : length q.actions ≡ SIGNALS
  pub frames : length q.frames ≤ FRAMES
  pub saved : AllSaved q.frames
  pub queued : length q.queued ≤ QUEUED

-- a mapped page has 64 bytes
abbrev pub IsWholePage : Option PageView → Type 0
IsWholePage None = Unit {0}
IsWholePage (Some page) = length page.bytes ≡ PAGE_BYTES

-- the six ids are at most 65,535
pub record HasIdLimits (ids : Ids) : Type 0 where
  pub real_user : ids.real_user ≤ LAST_ID
  pub effective_user : ids.effective_user ≤ LAST_ID
  pub saved_user : ids.saved_user ≤ LAST_ID
  pub real_group : ids.real_group ≤ LAST_ID
  pub effective_group : ids.effective_group ≤ LAST_ID
  pub saved_group : ids.saved_group ≤ LAST_ID

-- a mask holds known signals, and not SIGKILL
pub record IsMask (mask : ℕ) : Type 0 where
  pub known : (signo : ℕ) → is_in_set mask signo ≡ true → is_known signo ≡ true
  pub kill : is_in_set mask kill_signo ≡ false

-- what a caught signal saved is within its limits
pub record HasFrameLimits (frame : Frame) : Type 0 where
  pub point : frame.registers.point ≤ LAST_POINT
  pub mask : IsMask frame.mask

-- the catch point and the mask of an action are within their limits
pub record HasCatchLimits (to : ℕ) (blocked : SigSet) : Type 0 where
  pub point : to ≤ LAST_POINT
  pub mask : IsMask (bits_of blocked)

abbrev pub HasActionLimits : Action → Type 0
HasActionLimits Usual = Unit {0}
HasActionLimits Ignore = Unit {0}
HasActionLimits (Catch point mask) = HasCatchLimits point mask

-- a realtime signal
abbrev pub IsRealtimeEntry : Queued → Type 0
IsRealtimeEntry entry = is_realtime entry.signo ≡ true

-- a signal that may be on its way: a known one, or 0, which only asks
abbrev pub IsSendable : Sending → Type 0
IsSendable m = (m.signo ≡ 0) ⊎ (is_known m.signo ≡ true)

-- a known signal on its way, to a process number that there is
pub record IsHeldSending (width : ℕ) (m : Sending) : Type 0 where
  pub known : is_known m.signo ≡ true
  pub target : is_between width m.target ≡ true

-- what a process has is within its limits: only standard signals are in the set of those pending,
-- only realtime ones in the queue; SIGKILL is neither caught nor ignored
pub record HasLimits (q : Process) : Type 0 where
  pub point : q.registers.point ≤ LAST_POINT
  pub pages : All IsWholePage q.memory
  pub ids : HasIdLimits q.ids
  pub mask : IsMask q.mask
  pub actions : All HasActionLimits q.actions
  pub kill : action_at kill_signo q ≡ Usual
  pub pending : (signo : ℕ) → is_in_set q.pending signo ≡ true
      → is_one_of standard_signals signo ≡ true
  pub queued : All IsRealtimeEntry q.queued
  pub frames : All HasFrameLimits q.frames

-- what holds for the process of a number: its parent is another one, that runs; process 1 has none
pub record IsPlaced (S : State) (n : ℕ) (q : Process) : Type 0 where
  pub number : is_between S.width n ≡ true
  pub parent : n ≢ 1 → is_running (S.procs q.parent) ≡ true
  pub other : q.parent ≢ n
  pub sizes : HasSizes q

-- process 1 runs, has no parent, and no signal is ever pending at it
pub record IsFirst (q : Process) : Type 0 where
  pub runs : q.status ≡ None
  pub parent : q.parent ≡ 0
  pub pending : q.pending ≡ 0
  pub queued : length q.queued ≡ 0

-- process 1 exists; each process has its place; a description exists exactly while a descriptor
-- names it, and a pipe exactly while a description does; the numbers (descriptions 0 to 63, pipes 0
-- to 31) and sizes are within their limits, and so is what each process has; the signals that
-- transactions hold are known ones, to process numbers in range
pub record IsWellFormed (S : State) : Type 0 where
  pub first : (q : Process) × (S.procs 1 ≡ Some q) × IsFirst q
  pub placed : (n : ℕ) (q : Process) → S.procs n ≡ Some q → IsPlaced S n q
  pub names : (n f d : ℕ) → names_at d f (S.procs n) ≡ true → is_some (S.descs d) ≡ true
  pub named : (d : ℕ) (x : Description) → S.descs d ≡ Some x
      → (is_named d S ≡ true) × (d < DESCRIPTIONS) × (is_some (S.pipes x.pipe) ≡ true)
  pub pipes : (k : ℕ) (bytes : List ℕ) → S.pipes k ≡ Some bytes
      → (has_description k S ≡ true) × (k < PIPES) × (length bytes ≤ PIPE_BYTES)
  pub limits : (n : ℕ) (q : Process) → S.procs n ≡ Some q → HasLimits q
  pub held : (s : ℕ) → All (IsHeldSending S.width) (S.held s)

-- the numbers that an event chooses are in range
abbrev pub HasGoodNumbers : ℕ → Event → Type 0
HasGoodNumbers width (Do step inside) = has_bad_number width step ≡ false
HasGoodNumbers width (Note p r) = Unit {0}
HasGoodNumbers width (Commit s ev) = HasGoodNumbers width ev
