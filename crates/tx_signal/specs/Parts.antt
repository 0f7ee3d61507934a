-- The parts of a process that are its signals.
use Rattle.std.specs.Prelude.{ℕ, List, ℤ, pos, Option, Result, Ok, Err, if◌then◌else◌, nat_lt, length}
use Rattle.tx_base.specs.declared.errors.Errno.{Errno}
use Rattle.tx_base.specs.declared.errors.Errno.TheVariants.{TryAgain}
use Rattle.tx_base.specs.declared.signals.Action.{Action}
use Rattle.tx_base.specs.declared.limits.TheConstants.{QUEUED}
use Rattle.tx_model.specs.Numbers.{error_answer}
use Rattle.tx_model.specs.Posts.{is_realtime}
use Rattle.tx_model.specs.State.{Process, Queued, Frame, Sender, Sending, booted_process}

-- what is pending: the set of the standard signals, and the queue of the realtime ones, the first
-- to be taken first
pub record PendingView : Type 0 where
  pub standard : ℕ
  pub queued : List Queued

-- the process with this pending at it
abbrev pub with_pending_part : PendingView → Process → Process
with_pending_part view me = record me { pending = view.standard; queued = view.queued }

-- the process with this pending at it, and this mask
abbrev pub with_pending_under : ℕ → PendingView → Process → Process
with_pending_under mask view me =
    record me { mask = mask; pending = view.standard; queued = view.queued }

-- a process with this pending at it, of which nothing else matters
abbrev pub alone : PendingView → Process
alone view = with_pending_part view (booted_process 1)

-- what is pending at a process
abbrev pub pending_of : Process → PendingView
pending_of me = record { standard = me.pending; queued = me.queued }

-- the process with these frames
abbrev pub with_frames : List Frame → Process → Process
with_frames frames me = record me { frames = frames }

-- the process with these actions
abbrev pub with_actions : List Action → Process → Process
with_actions actions me = record me { actions = actions }

-- the signal on its way, with its value
abbrev pub sending_of : ℕ → ℤ → ℕ → Option Sender → Sending
sending_of signo value target from =
    record { target = target; signo = signo; value = value; from = from }

-- what a post answers where it is let through: EAGAIN for a realtime signal at a full queue
abbrev pub post_result : ℕ → PendingView → Result (Unit {0}) Errno
post_result signo view =
    if is_realtime signo
    then (if nat_lt (length view.queued) QUEUED then Ok tt else Err TryAgain)
    else Ok tt

-- the answer of a call that gives nothing or an error
abbrev pub answer_of : Result (Unit {0}) Errno → ℤ
answer_of (Ok _) = pos 0
answer_of (Err errno) = error_answer errno
