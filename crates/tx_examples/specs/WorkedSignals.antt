-- Schedules of signals that are sent, held and given back, worked out to the end. Own rules.
use Rattle.std.specs.Prelude.{◌≡◌, false, List, [], ◌∷◌, ◌++◌, pos, negsuc, Some, None, replicate}
use Rattle.tx_base.specs.declared.errors.Errno.TheVariants.{NoSuchProcess}
use Rattle.tx_base.specs.declared.signals.Action.TheVariants.{Ignore}
use Rattle.tx_base.specs.declared.signals.How.TheVariants.{Block}
use Rattle.tx_base.specs.declared.steps.Call.TheVariants.{Map, Exit, Waitpid, Sigaction, Sigprocmask, Sigpending, Getpid, ConsoleWrite, SysXbegin, SysXend, SysXabort}
use Rattle.tx_base.specs.declared.steps.Reply.TheVariants.{Ended, Aborted, Out}
use Rattle.tx_base.specs.declared.steps.Step.{Step}
use Rattle.tx_model.specs.Memory.{no_memory}
use Rattle.tx_model.specs.State.{State, booted_process, boot_state}
use Rattle.tx_model.specs.View.{View}
use Rattle.tx_model.specs.Schedules.{answers_of}
use Rattle.tx_examples.specs.WorkedSteps.{calls, delivery, store, fork, kill, sigqueue, block, ok, error, committed, committed_without, missed, marked, view_after, state_after, standing, with_one_action, with_one_pending, entry, with_queue}

-- an outsider's signal is delivered to a starter inside, where it is ignored
abbrev pub taken_inside : List Step
taken_inside =
    calls 2 (Sigaction (pos 10) Ignore)
    ∷ calls 2 SysXbegin
    ∷ calls 3 (kill 2 10)
    ∷ delivery 2 10
    ∷ []

-- after the abort it is pending again
abbrev pub given_back : List Step
given_back = taken_inside ++ calls 2 SysXabort ∷ []

abbrev pub GivenBackAnswers : Type 0
GivenBackAnswers =
    answers_of (boot_state 64 3) [] given_back ≡ ok 0 ∷ ok 0 ∷ ok 0 ∷ ok 0 ∷ Aborted 201 ∷ []

abbrev pub GivenBackState : Type 0
GivenBackState =
    let S : State = state_after (boot_state 64 3) given_back in
    (S.procs 1 ≡ Some (booted_process 1))
    × (S.procs 2
    ≡ Some (with_one_action 10 Ignore
    (with_one_pending 10 (standing 2 2 (negsuc 200) no_memory))))
    × (S.procs 3 ≡ Some (standing 3 1 (pos 0) no_memory))

-- after the commit it is gone
abbrev pub taken_for_good : List Step
taken_for_good = taken_inside ++ calls 2 SysXend ∷ []

abbrev pub TakenForGoodAnswers : Type 0
TakenForGoodAnswers =
    answers_of (boot_state 64 3) [] taken_for_good ≡ ok 0 ∷ ok 0 ∷ ok 0 ∷ ok 0 ∷ committed ∷ []

abbrev pub TakenForGoodState : Type 0
TakenForGoodState =
    let S : State = state_after (boot_state 64 3) taken_for_good in
    (S.procs 1 ≡ Some (booted_process 1))
    × (S.procs 2 ≡ Some (with_one_action 10 Ignore (standing 2 3 (pos 0) no_memory)))
    × (S.procs 3 ≡ Some (standing 3 1 (pos 0) no_memory))

-- it is sent a second time, and is pending once after the abort
abbrev pub sent_twice_undone : List Step
sent_twice_undone = taken_inside ++ calls 3 (kill 2 10) ∷ calls 2 SysXabort ∷ []

abbrev pub SentTwiceUndoneAnswers : Type 0
SentTwiceUndoneAnswers =
    answers_of (boot_state 64 3) [] sent_twice_undone
    ≡ ok 0 ∷ ok 0 ∷ ok 0 ∷ ok 0 ∷ ok 0 ∷ Aborted 201 ∷ []

abbrev pub SentTwiceUndoneState : Type 0
SentTwiceUndoneState =
    let S : State = state_after (boot_state 64 3) sent_twice_undone in
    (S.procs 1 ≡ Some (booted_process 1))
    × (S.procs 2
    ≡ Some (with_one_action 10 Ignore
    (with_one_pending 10 (standing 2 2 (negsuc 200) no_memory))))
    × (S.procs 3 ≡ Some (standing 3 2 (pos 0) no_memory))

-- and after the commit too, since the second one was not delivered
abbrev pub sent_twice : List Step
sent_twice = taken_inside ++ calls 3 (kill 2 10) ∷ calls 2 SysXend ∷ []

abbrev pub SentTwiceAnswers : Type 0
SentTwiceAnswers =
    answers_of (boot_state 64 3) [] sent_twice ≡ ok 0 ∷ ok 0 ∷ ok 0 ∷ ok 0 ∷ ok 0 ∷ committed ∷ []

abbrev pub SentTwiceState : Type 0
SentTwiceState =
    let S : State = state_after (boot_state 64 3) sent_twice in
    (S.procs 1 ≡ Some (booted_process 1))
    × (S.procs 2
    ≡ Some (with_one_action 10 Ignore (with_one_pending 10 (standing 2 3 (pos 0) no_memory))))
    × (S.procs 3 ≡ Some (standing 3 2 (pos 0) no_memory))

-- a member's signal to an outsider is held, with the ids of its sender
abbrev pub held_inside : List Step
held_inside = calls 2 SysXbegin ∷ calls 2 (kill 3 10) ∷ []

abbrev pub HeldInsideState : Type 0
HeldInsideState =
    let V : View = view_after (boot_state 64 3) held_inside in
    let S : State = state_after (boot_state 64 3) held_inside in
    (S.procs 1 ≡ Some (booted_process 1))
    × (S.procs 2 ≡ Some (standing 2 2 (pos 0) no_memory))
    × (S.procs 3 ≡ Some (booted_process 3))
    × (S.held 2
    ≡ record {
      target = 3;
      signo = 10;
      value = pos 0;
      from = Some (record { real = 0; effective = 0 });
    }
    ∷ [])
    × (V.table.marks 2 ≡ marked 2 false false)
    × (V.table.marks 3 ≡ None)

-- it is not pending at its target before the commit
abbrev pub sent_inside : List Step
sent_inside =
    held_inside ++ calls 3 (Sigprocmask Block (record { 0 = 1024 })) ∷ calls 3 Sigpending ∷ []

-- after the commit it is
abbrev pub held_signal : List Step
held_signal = sent_inside ++ calls 2 SysXend ∷ calls 3 Sigpending ∷ []

abbrev pub HeldSignalAnswers : Type 0
HeldSignalAnswers =
    answers_of (boot_state 64 3) [] held_signal
    ≡ ok 0 ∷ ok 0 ∷ ok 0 ∷ ok 0 ∷ committed ∷ ok 1024 ∷ []

-- and after an abort it never was sent
abbrev pub held_undone : List Step
held_undone = sent_inside ++ calls 2 SysXabort ∷ calls 3 Sigpending ∷ []

abbrev pub HeldUndoneAnswers : Type 0
HeldUndoneAnswers =
    answers_of (boot_state 64 3) [] held_undone
    ≡ ok 0 ∷ ok 0 ∷ ok 0 ∷ ok 0 ∷ Aborted 201 ∷ ok 0 ∷ []

-- the target of a held signal ended and was waited for: the commit says so, with ESRCH
abbrev pub target_gone : List Step
target_gone =
    calls 2 SysXbegin
    ∷ calls 2 (kill 3 10)
    ∷ calls 3 (Exit (pos 0))
    ∷ calls 1 (Waitpid (pos 3) false)
    ∷ calls 2 SysXend
    ∷ []

abbrev pub TargetGoneAnswers : Type 0
TargetGoneAnswers =
    answers_of (boot_state 64 3) [] target_gone
    ≡ ok 0
    ∷ ok 0
    ∷ Ended
    ∷ ok 3
    ∷ committed_without (missed 3 10 NoSuchProcess ∷ [])
    ∷ []

abbrev pub TargetGoneState : Type 0
TargetGoneState = (state_after (boot_state 64 3) target_gone).procs 3 ≡ None

-- what would go out at once is closed inside: the console, and the question whether an outsider is
-- there
abbrev pub closed_calls : List Step
closed_calls =
    calls 2 (Map (pos 0))
    ∷ calls 2 (store (pos 0) (104 ∷ 105 ∷ []))
    ∷ calls 2 (ConsoleWrite (pos 0) (pos 2))
    ∷ calls 2 SysXbegin
    ∷ calls 2 (ConsoleWrite (pos 0) (pos 2))
    ∷ calls 2 (kill 3 0)
    ∷ calls 2 SysXend
    ∷ []

abbrev pub ClosedCallsAnswers : Type 0
ClosedCallsAnswers =
    answers_of (boot_state 64 3) [] closed_calls
    ≡ ok 0
    ∷ ok 0
    ∷ Out (record { items = 104 ∷ 105 ∷ [] })
    ∷ ok 0
    ∷ error 200
    ∷ error 200
    ∷ committed
    ∷ []

-- a transaction holds at most 32 signals of its members; the SIGCHLD for the parent of its starter,
-- which is held before them, is none of these
abbrev pub full_hold : List Step
full_hold =
    calls 2 (block 131072)
    ∷ calls 2 (fork 4)
    ∷ calls 4 SysXbegin
    ∷ calls 4 (fork 5)
    ∷ calls 4 (Exit (pos 0))
    ∷ replicate 32 (calls 5 (kill 3 10))
    ++ calls 5 (kill 3 10)
    ∷ calls 2 Sigpending
    ∷ calls 5 SysXend
    ∷ calls 2 Sigpending
    ∷ []

abbrev pub FullHoldAnswers : Type 0
FullHoldAnswers =
    answers_of (boot_state 64 3) [] full_hold
    ≡ ok 0
    ∷ ok 4
    ∷ ok 0
    ∷ ok 5
    ∷ Ended
    ∷ replicate 32 (ok 0)
    ++ error 11
    ∷ ok 0
    ∷ committed
    ∷ ok 131072
    ∷ []

-- held signals go out in their order
abbrev pub held_in_turn : List Step
held_in_turn =
    calls 2 SysXbegin ∷ calls 2 (sigqueue 3 34 1) ∷ calls 2 (sigqueue 3 34 2) ∷ calls 2 SysXend ∷ []

abbrev pub HeldInTurnState : Type 0
HeldInTurnState =
    (state_after (boot_state 64 3) held_in_turn).procs 3
    ≡ Some (with_queue (entry 34 1 ∷ entry 34 2 ∷ []) (booted_process 3))

-- a queue has room for sixteen realtime signals; a standard one needs none
abbrev pub full_queue : List Step
full_queue =
    replicate 16 (calls 3 (sigqueue 2 34 7)) ++ calls 3 (sigqueue 2 35 7) ∷ calls 3 (kill 2 10) ∷ []

abbrev pub FullQueueAnswers : Type 0
FullQueueAnswers =
    answers_of (boot_state 64 3) [] full_queue ≡ replicate 16 (ok 0) ++ error 11 ∷ ok 0 ∷ []

abbrev pub FullQueueState : Type 0
FullQueueState =
    (state_after (boot_state 64 3) full_queue).procs 2
    ≡ Some (with_one_pending 10 (with_queue (replicate 16 (entry 34 7)) (booted_process 2)))

-- an unknown signal is an error before a number of no process is, and process 1 takes no signal
abbrev pub wrong_sends : List Step
wrong_sends =
    calls 2 (kill 0 99)
    ∷ calls 2 (kill 0 10)
    ∷ calls 2 (kill 65 10)
    ∷ calls 2 (kill 5 10)
    ∷ calls 2 (kill 1 0)
    ∷ calls 2 (kill 1 9)
    ∷ calls 1 Getpid
    ∷ []

abbrev pub WrongSendsAnswers : Type 0
WrongSendsAnswers =
    answers_of (boot_state 64 2) [] wrong_sends
    ≡ error 22 ∷ error 3 ∷ error 3 ∷ error 3 ∷ ok 0 ∷ ok 0 ∷ ok 1 ∷ []
