-- Schedules of signals that are sent: which there are, and what they bring, worked out to the end.
-- Own rules.
use Rattle.std.specs.Prelude.{◌≡◌, ℕ, false, List, [], ◌∷◌, ◌++◌, pos, negsuc, Some, replicate}
use Rattle.tx_base.specs.declared.errors.Errno.TheVariants.{NoSuchProcess}
use Rattle.tx_base.specs.declared.steps.Call.TheVariants.{Exit, Waitpid, Sigqueue, Sigpending, Sigreturn, SysXbegin, SysXend}
use Rattle.tx_base.specs.declared.steps.Reply.TheVariants.{Done, Ended}
use Rattle.tx_base.specs.declared.steps.Step.{Step}
use Rattle.tx_model.specs.Memory.{no_memory}
use Rattle.tx_model.specs.State.{boot_state}
use Rattle.tx_model.specs.Schedules.{answers_of}
use Rattle.tx_examples.specs.WorkedSteps.{calls, delivery, fork, kill, sigqueue, block, catch, ok, error, committed_without, missed, state_after, standing, with_mask, with_one_pending, entry, with_queue}

-- process 2 sends itself each of these signals
abbrev pub to_itself : List ℕ → List Step
to_itself [] = []
to_itself (signo ∷ signos) = calls 2 (kill 2 signo) ∷ to_itself signos

-- every signal there is but SIGKILL, and the numbers between them; all that may be blocked is
-- (18,446,744,073,709,551,615 is the set of 0 to 63, and 1,095,216,854,094 that of the signals but
-- SIGKILL)
abbrev pub each_signal : List Step
each_signal =
    calls 2 (block 18446744073709551615)
    ∷ to_itself
    (1 ∷ 2 ∷ 3 ∷ 6 ∷ 10 ∷ 12 ∷ 13 ∷ 14 ∷ 15 ∷ 17 ∷ 32 ∷ 33 ∷ 34 ∷ 35 ∷ 36 ∷ 37 ∷ 38 ∷ 39 ∷ [])
    ++ to_itself (4 ∷ 5 ∷ 7 ∷ 8 ∷ 11 ∷ 16 ∷ 18 ∷ 31 ∷ 40 ∷ 64 ∷ [])
    ++ calls 2 Sigpending
    ∷ []

abbrev pub EachSignalAnswers : Type 0
EachSignalAnswers =
    answers_of (boot_state 64 2) [] each_signal
    ≡ replicate 19 (ok 0) ++ replicate 10 (error 22) ++ ok 1095216854094 ∷ []

-- 193,614 is the set of the standard signals but SIGKILL
abbrev pub EachSignalState : Type 0
EachSignalState =
    (state_after (boot_state 64 2) each_signal).procs 2
    ≡ Some (with_mask 1095216854094
    (with_queue
    (entry 32 0 ∷ entry 33 0 ∷ entry 34 0 ∷ entry 35 0 ∷ entry 36 0 ∷ entry 37 0 ∷ entry 38 0
    ∷ entry 39 0 ∷ [])
    (record (standing 2 30 (pos 1095216854094) no_memory) { pending = 193614 })))

-- a realtime signal brings its value, which kill has not; a standard one brings 0
abbrev pub values : List Step
values =
    calls 2 (catch 10 50 0)
    ∷ calls 2 (catch 34 60 0)
    ∷ calls 3 (sigqueue 2 10 7)
    ∷ calls 3 (kill 2 34)
    ∷ calls 3 (Sigqueue (pos 2) (pos 34) (negsuc 8))
    ∷ delivery 2 10
    ∷ delivery 2 34
    ∷ calls 2 Sigreturn
    ∷ delivery 2 34
    ∷ []

abbrev pub ValuesAnswers : Type 0
ValuesAnswers = answers_of (boot_state 64 3) [] values ≡ replicate 8 (ok 0) ++ Done (negsuc 8) ∷ []

-- inside a transaction: errors come before what is closed there; a signal to a member is sent at
-- once, also where the member ended and was waited for; one to a number of no process is held, and
-- each that could not be sent is reported in turn
abbrev pub sends_inside : List Step
sends_inside =
    calls 2 SysXbegin
    ∷ calls 2 (fork 7)
    ∷ calls 2 (kill 65 99)
    ∷ calls 2 (kill 65 0)
    ∷ calls 2 (kill 3 0)
    ∷ calls 2 (kill 7 0)
    ∷ calls 7 (Exit (pos 0))
    ∷ calls 2 (Waitpid (pos 7) false)
    ∷ calls 2 (kill 7 10)
    ∷ calls 2 (kill 9 10)
    ∷ calls 2 (kill 3 10)
    ∷ calls 2 (kill 8 12)
    ∷ calls 2 SysXend
    ∷ []

abbrev pub SendsInsideAnswers : Type 0
SendsInsideAnswers =
    answers_of (boot_state 64 3) [] sends_inside
    ≡ ok 0
    ∷ ok 7
    ∷ error 22
    ∷ error 3
    ∷ error 200
    ∷ ok 0
    ∷ Ended
    ∷ ok 7
    ∷ error 3
    ∷ ok 0
    ∷ ok 0
    ∷ ok 0
    ∷ committed_without (missed 9 10 NoSuchProcess ∷ missed 8 12 NoSuchProcess ∷ [])
    ∷ []

abbrev pub SendsInsideState : Type 0
SendsInsideState =
    (state_after (boot_state 64 3) sends_inside).procs 3
    ≡ Some (with_one_pending 10 (standing 3 0 (pos 0) no_memory))
