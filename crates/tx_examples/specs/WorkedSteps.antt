-- Short words for the schedules that are worked out: their steps, their answers, and the states
-- that they leave.
use Rattle.std.specs.Prelude.{ℕ, ◌+◌, ◌-◌, ◌^◌, Bool, List, [], ◌∷◌, ℤ, pos, negsuc, Option, Some, replicate, slice_set}
use Rattle.tx_base.specs.declared.errors.Errno.{Errno}
use Rattle.tx_base.specs.declared.marks.Mark.{Mark}
use Rattle.tx_base.specs.declared.names.Missed.{Missed}
use Rattle.tx_base.specs.declared.signals.Action.{Action}
use Rattle.tx_base.specs.declared.signals.Action.TheVariants.{Usual, Catch}
use Rattle.tx_base.specs.declared.signals.How.TheVariants.{Block, Unblock, Set}
use Rattle.tx_base.specs.declared.steps.Call.{Call}
use Rattle.tx_base.specs.declared.steps.Call.TheVariants as call
use Rattle.tx_base.specs.declared.steps.Refusal.TheVariants.{Busy}
use Rattle.tx_base.specs.declared.steps.Reply.{Reply}
use Rattle.tx_base.specs.declared.steps.Reply.TheVariants.{Done, Committed, No}
use Rattle.tx_base.specs.declared.steps.Step.{Step}
use Rattle.tx_base.specs.declared.steps.Step.TheVariants.{Call as Calls, Deliver, KernelAbort}
use Rattle.tx_model.specs.Memory.{Memory}
use Rattle.tx_model.specs.State.{Ids, Queued, Frame, Process, Side, Description, State, first_registers, booted_process}
use Rattle.tx_model.specs.View.{View, view, present}
use Rattle.tx_model.specs.Schedules.{history_of}

-- process p makes a call
abbrev pub calls : ℕ → Call → Step
calls p call = Calls (record { 0 = p }) call

-- process p gets a signal that is pending at it
abbrev pub delivery : ℕ → ℕ → Step
delivery p signo = Deliver (record { 0 = p }) (record { 0 = signo })

-- the kernel aborts the transaction of the starter
abbrev pub kernel : ℕ → Step
kernel s = KernelAbort (record { 0 = s })

abbrev pub store : ℤ → List ℕ → Call
store address bytes = call.Store address (record { items = bytes })

abbrev pub fork : ℕ → Call
fork child = call.Fork (record { 0 = child })

abbrev pub pipe : ℕ → ℕ → ℕ → Call
pipe k r w = call.Pipe (record { 0 = k }) (record { 0 = r }) (record { 0 = w })

abbrev pub kill : ℕ → ℕ → Call
kill t signo = call.Kill (pos t) (pos signo)

-- a signal with a value
abbrev pub sigqueue : ℕ → ℕ → ℕ → Call
sigqueue t signo value = call.Sigqueue (pos t) (pos signo) (pos value)

-- these signals are blocked too
abbrev pub block : ℕ → Call
block set = call.Sigprocmask Block (record { 0 = set })

-- these signals are no longer blocked
abbrev pub unblock : ℕ → Call
unblock set = call.Sigprocmask Unblock (record { 0 = set })

-- these signals are blocked, and no others
abbrev pub block_only : ℕ → Call
block_only set = call.Sigprocmask Set (record { 0 = set })

-- the signal is caught at a point, where these are blocked too
abbrev pub catch : ℕ → ℕ → ℕ → Call
catch signo point mask = call.Sigaction (pos signo) (Catch point (record { 0 = mask }))

-- process 2 catches signal 10, and blocks nothing then, so that it may catch it again
abbrev pub caught_and_unblocked : List Step
caught_and_unblocked = calls 1 (kill 2 10) ∷ delivery 2 10 ∷ calls 2 (block_only 0) ∷ []

-- the call answered this number
abbrev pub ok : ℕ → Reply
ok n = Done (pos n)

-- the call answered this number as a negative one: an error
abbrev pub error : ℕ → Reply
error n = Done (negsuc (n - 1))

-- the transaction was committed, and every held signal was sent
abbrev pub committed : Reply
committed = Committed (record { items = [] })

-- it was committed, and these held signals could not be sent
abbrev pub committed_without : List Missed → Reply
committed_without signals = Committed (record { items = signals })

abbrev pub missed : ℕ → ℕ → Errno → Missed
missed t signo errno =
    record { target = record { 0 = t }; signo = record { 0 = signo }; errno = errno }

-- the transaction of this starter is in the way
abbrev pub busy_with : ℕ → Reply
busy_with starter_in_way = No (Busy (record { 0 = starter_in_way }))

-- the view that the schedule leaves, and the state
abbrev pub view_after : State → List Step → View
view_after S steps = view S (history_of S [] steps)

abbrev pub state_after : State → List Step → State
state_after S steps = present (view_after S steps)

-- the mark of a member: its starter, whether its part has ended, and whether deliveries are
-- deferred
abbrev pub marked : ℕ → Bool → Bool → Option Mark
marked starter ended defers =
    Some (record { starter = record { 0 = starter }; ended = ended; defers = defers })

-- the process as it was booted, except its point, its last answer and its memory
abbrev pub standing : ℕ → ℕ → ℤ → Memory → Process
standing n point ret memory =
    record (booted_process n) {
      registers = record { point = point; ret = ret; slots = replicate 8 (pos 0) };
      memory = memory;
    }

-- the child of process 1 that ended with this status
abbrev pub exited : ℕ → Process
exited status = record (booted_process 2) { status = Some status }

-- the child of process 1 that the signal ended
abbrev pub killed_by : ℕ → Process
killed_by signo = exited (256 + signo)

-- the process, except its parent
abbrev pub of_parent : ℕ → Process → Process
of_parent n q = record q { parent = n }

-- the process, except its slots
abbrev pub with_slots : List ℤ → Process → Process
with_slots slots q =
    record q {
      registers = record { point = q.registers.point; ret = q.registers.ret; slots = slots };
    }

-- the process, except what its descriptors name
abbrev pub with_open : List (Option ℕ) → Process → Process
with_open descriptors q = record q { descriptors = descriptors }

-- the process, except its actions: this one, and else the usual ones
abbrev pub with_one_action : ℕ → Action → Process → Process
with_one_action signo action q = record q { actions = slice_set (replicate 40 Usual) signo action }

-- the process, except its mask
abbrev pub with_mask : ℕ → Process → Process
with_mask mask q = record q { mask = mask }

-- the process, except its ids
abbrev pub with_ids : Ids → Process → Process
with_ids ids q = record q { ids = ids }

-- an entry of a queue
abbrev pub entry : ℕ → ℕ → Queued
entry signo value = record { signo = signo; value = pos value }

-- the process, except its queue of realtime signals
abbrev pub with_queue : List Queued → Process → Process
with_queue queued q = record q { queued = queued }

-- what a caught signal saved of a process at this point, whose last answer was 0 and which blocked
-- nothing
abbrev pub saved_at : ℕ → Frame
saved_at point = record { registers = record first_registers { point = point }; mask = 0 }

-- the process, except what its caught signals saved
abbrev pub with_frames : List Frame → Process → Process
with_frames frames q = record q { frames = frames }

-- the process, except what is pending: only this standard signal
abbrev pub with_one_pending : ℕ → Process → Process
with_one_pending signo q = record q { pending = 2 ^ signo }

-- a description of a pipe, whose reads and writes may wait or not
abbrev pub described : ℕ → Side → Bool → Option Description
described k side nonblock = Some (record { pipe = k; side = side; nonblock = nonblock })
