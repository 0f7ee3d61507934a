-- The posting rule: what a signal that is sent does to its target (POSIX.1-2017, XSH, Signal
-- Concepts and kill()).
use Rattle.std.specs.Prelude.{Bool, true, ◌||◌, List, [], ◌∷◌, ◌++◌, length, ℤ, pos, Option, Some, None, is_some, if◌then◌else◌, nat_lt, ◌==◌}
use Rattle.tx_base.specs.declared.errors.Errno.TheVariants.{NoSuchProcess, NotPermitted, TryAgain}
use Rattle.tx_base.specs.declared.limits.TheConstants.{QUEUED}
use Rattle.tx_model.specs.Numbers.{error_answer}
use Rattle.tx_model.specs.SignalSets.{kill_signo, is_realtime, with_one_more}
use Rattle.tx_model.specs.State.{Ids, Process, Queued, Sender, Sending, State, SetProc, write_one}
pub use Rattle.tx_model.specs.SignalSets.{kill_signo, is_realtime}

-- whether the sender may signal a process with these ids; the kernel may always
abbrev pub may_signal : Option Sender → Ids → Bool
may_signal None ids = true
may_signal (Some from) ids =
    from.effective == 0
    || (from.real == ids.real_user
    || (from.real == ids.saved_user
    || (from.effective == ids.real_user || from.effective == ids.saved_user)))

-- signal 0, one to process 1 and one to an ended process change nothing. Own rules: process 1, and
-- that an ended process needs no room in its queue
abbrev pub is_quiet : Sending → Process → Bool
is_quiet m q = m.signo == 0 || (m.target == 1 || is_some q.status)

abbrev pub has_room : Process → Bool
has_room q = nat_lt (length q.queued) QUEUED

-- a standard signal is pending once; a realtime signal is queued last, if there is room
abbrev pub with_signal : Sending → Process → Process
with_signal m q =
    let entry : Queued = record { signo = m.signo; value = m.value } in
    if is_realtime m.signo
    then (if has_room q then record q { queued = q.queued ++ entry ∷ [] } else q)
    else record q { pending = with_one_more q.pending m.signo }

-- the target after it
abbrev pub target_after : Sending → Option Process → Option Process
target_after m None = None
target_after m (Some q) =
    Some (if may_signal m.from q.ids then (if is_quiet m q then q else with_signal m q) else q)

abbrev pub room_answer : Sending → Process → ℤ
room_answer m q =
    if is_quiet m q
    then pos 0
    else (if is_realtime m.signo
    then (if has_room q then pos 0 else error_answer TryAgain)
    else pos 0)

abbrev pub post_answer : Sending → Option Process → ℤ
post_answer m None = error_answer NoSuchProcess
post_answer m (Some q) =
    if may_signal m.from q.ids then room_answer m q else error_answer NotPermitted

abbrev pub after_post : Sending → State → State
after_post m S = write_one (SetProc m.target (target_after m (S.procs m.target))) S

unfoldable pub after_posts : List Sending → State → State
after_posts [] S = S
after_posts (m ∷ ms) S = after_posts ms (after_post m S)

unfoldable pub post_answers : List Sending → State → List ℤ
post_answers [] S = []
post_answers (m ∷ ms) S = post_answer m (S.procs m.target) ∷ post_answers ms (after_post m S)
