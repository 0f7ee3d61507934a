-- Schedules of refused steps, worked out to the end: of several reasons to refuse a step, which one
-- is given. Own rules.
use Rattle.std.specs.Prelude.{◌≡◌, true, false, List, [], ◌∷◌, ◌++◌, pos, replicate}
use Rattle.tx_base.specs.declared.steps.Call.TheVariants.{Exit, Waitpid, Getpid, SysXbegin, SysXbeginDefer, SysXend, SysXabort}
use Rattle.tx_base.specs.declared.steps.Refusal.TheVariants.{NoProcess, NotRunning, BadNumber, NumberTaken, Doomed, Parked, KillPending, Wait, NotDeliverable, FramesFull, NoTransaction, Deferred}
use Rattle.tx_base.specs.declared.steps.Reply.TheVariants.{Ended, Aborted, No}
use Rattle.tx_base.specs.declared.steps.Step.{Step}
use Rattle.tx_model.specs.State.{boot_state}
use Rattle.tx_model.specs.Schedules.{answers_of}
use Rattle.tx_examples.specs.WorkedSteps.{calls, delivery, kernel, fork, kill, block, catch, caught_and_unblocked, ok, error, committed, busy_with}

-- an ended process is refused as ended before its numbers are looked at, and as none once it was
-- waited for. The kernel's abort wants a live transaction, and no process
abbrev pub not_running : List Step
not_running =
    calls 2 (Exit (pos 0))
    ∷ calls 2 Getpid
    ∷ delivery 2 9
    ∷ calls 2 (fork 65)
    ∷ kernel 2
    ∷ kernel 9
    ∷ calls 9 (fork 65)
    ∷ calls 0 Getpid
    ∷ calls 1 (Waitpid (pos 2) false)
    ∷ calls 2 Getpid
    ∷ []

abbrev pub NotRunningAnswers : Type 0
NotRunningAnswers =
    answers_of (boot_state 64 3) [] not_running
    ≡ Ended
    ∷ No NotRunning
    ∷ No NotRunning
    ∷ No NotRunning
    ∷ No NoTransaction
    ∷ No NoTransaction
    ∷ No NoProcess
    ∷ No NoProcess
    ∷ ok 2
    ∷ No NoProcess
    ∷ []

-- in a doomed transaction: a member that ended is refused as ended, and a chosen number that is
-- wrong or taken comes before the doom, which comes before a part that has ended and a SIGKILL that
-- is pending
abbrev pub doom_in_turn : List Step
doom_in_turn =
    calls 2 SysXbegin
    ∷ calls 2 (fork 7)
    ∷ calls 2 (fork 8)
    ∷ calls 7 SysXend
    ∷ calls 8 (Exit (pos 0))
    ∷ calls 3 (kill 2 9)
    ∷ calls 2 (fork 65)
    ∷ calls 2 (fork 1)
    ∷ calls 2 Getpid
    ∷ delivery 2 9
    ∷ calls 7 (fork 65)
    ∷ calls 7 (fork 1)
    ∷ calls 7 Getpid
    ∷ calls 8 (fork 65)
    ∷ []

abbrev pub DoomInTurnAnswers : Type 0
DoomInTurnAnswers =
    answers_of (boot_state 64 3) [] doom_in_turn
    ≡ ok 0
    ∷ ok 7
    ∷ ok 8
    ∷ ok 0
    ∷ Ended
    ∷ ok 0
    ∷ No BadNumber
    ∷ No NumberTaken
    ∷ No Doomed
    ∷ No Doomed
    ∷ No BadNumber
    ∷ No NumberTaken
    ∷ No Doomed
    ∷ No NotRunning
    ∷ []

-- a member whose part has ended: a chosen number that is wrong or taken comes first, and a SIGKILL
-- that is pending after that; it is not delivered either
abbrev pub parked_in_turn : List Step
parked_in_turn =
    calls 2 SysXbegin
    ∷ calls 2 (fork 7)
    ∷ calls 2 SysXend
    ∷ calls 7 (kill 2 9)
    ∷ calls 2 (fork 65)
    ∷ calls 2 (fork 1)
    ∷ calls 2 Getpid
    ∷ delivery 2 9
    ∷ []

abbrev pub ParkedInTurnAnswers : Type 0
ParkedInTurnAnswers =
    answers_of (boot_state 64 2) [] parked_in_turn
    ≡ ok 0 ∷ ok 7 ∷ ok 0 ∷ ok 0 ∷ No BadNumber ∷ No NumberTaken ∷ No Parked ∷ No Parked ∷ []

-- a process at which SIGKILL is pending: a chosen number that is wrong or taken comes first, and a
-- transaction in the way after that. In the way it is of the delivery of SIGKILL too
abbrev pub kill_in_turn : List Step
kill_in_turn =
    calls 3 (kill 2 9)
    ∷ calls 2 (fork 65)
    ∷ calls 2 (fork 1)
    ∷ calls 2 Getpid
    ∷ delivery 2 10
    ∷ calls 3 SysXbegin
    ∷ calls 3 (Waitpid (pos 2) true)
    ∷ calls 2 Getpid
    ∷ delivery 2 9
    ∷ calls 3 SysXend
    ∷ delivery 2 9
    ∷ []

abbrev pub KillInTurnAnswers : Type 0
KillInTurnAnswers =
    answers_of (boot_state 64 3) [] kill_in_turn
    ≡ ok 0
    ∷ No BadNumber
    ∷ No NumberTaken
    ∷ No KillPending
    ∷ No KillPending
    ∷ ok 0
    ∷ error 10
    ∷ No KillPending
    ∷ busy_with 3
    ∷ committed
    ∷ Ended
    ∷ []

-- a transaction in the way comes after a chosen number that is wrong or taken, and before a wait
-- and before a signal that is not pending
abbrev pub busy_in_turn : List Step
busy_in_turn =
    calls 2 (fork 4)
    ∷ calls 2 (Waitpid (pos 4) false)
    ∷ delivery 2 10
    ∷ calls 3 SysXbegin
    ∷ calls 3 (Waitpid (pos 2) true)
    ∷ calls 2 (fork 65)
    ∷ calls 2 (fork 1)
    ∷ calls 2 (Waitpid (pos 4) false)
    ∷ delivery 2 10
    ∷ []

abbrev pub BusyInTurnAnswers : Type 0
BusyInTurnAnswers =
    answers_of (boot_state 64 3) [] busy_in_turn
    ≡ ok 4
    ∷ No Wait
    ∷ No NotDeliverable
    ∷ ok 0
    ∷ error 10
    ∷ No BadNumber
    ∷ No NumberTaken
    ∷ busy_with 3
    ∷ busy_with 3
    ∷ []

-- a transaction that defers deliveries: a signal that is not pending, or is blocked, comes before
-- that
abbrev pub deferred_in_turn : List Step
deferred_in_turn =
    calls 2 SysXbeginDefer
    ∷ delivery 2 10
    ∷ calls 3 (kill 2 10)
    ∷ delivery 2 10
    ∷ calls 2 (block 1024)
    ∷ delivery 2 10
    ∷ []

abbrev pub DeferredInTurnAnswers : Type 0
DeferredInTurnAnswers =
    answers_of (boot_state 256 3) [] deferred_in_turn
    ≡ ok 0 ∷ No NotDeliverable ∷ ok 0 ∷ No Deferred ∷ ok 0 ∷ No NotDeliverable ∷ []

-- and four unfinished ones come after it
abbrev pub deferred_with_frames : List Step
deferred_with_frames =
    calls 2 (catch 10 50 0)
    ∷ caught_and_unblocked
    ++ caught_and_unblocked
    ++ caught_and_unblocked
    ++ caught_and_unblocked
    ++ calls 2 SysXbeginDefer
    ∷ calls 1 (kill 2 10)
    ∷ delivery 2 10
    ∷ calls 2 SysXabort
    ∷ delivery 2 10
    ∷ []

abbrev pub DeferredWithFramesAnswers : Type 0
DeferredWithFramesAnswers =
    answers_of (boot_state 256 2) [] deferred_with_frames
    ≡ replicate 15 (ok 0) ++ No Deferred ∷ Aborted 201 ∷ No FramesFull ∷ []

-- a child that was forked inside is deferred like its starter, and not where the transaction defers
-- nothing
abbrev pub deferred_child : List Step
deferred_child =
    calls 2 SysXbeginDefer
    ∷ calls 3 SysXbegin
    ∷ calls 2 (fork 7)
    ∷ calls 3 (fork 8)
    ∷ calls 2 (kill 7 10)
    ∷ calls 3 (kill 8 10)
    ∷ delivery 7 10
    ∷ delivery 8 10
    ∷ []

abbrev pub DeferredChildAnswers : Type 0
DeferredChildAnswers =
    answers_of (boot_state 256 3) [] deferred_child
    ≡ ok 0 ∷ ok 0 ∷ ok 7 ∷ ok 8 ∷ ok 0 ∷ ok 0 ∷ No Deferred ∷ Ended ∷ []
