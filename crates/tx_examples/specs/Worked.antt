-- Schedules of transactions that begin and end, worked out to the end. Own rules.
use Rattle.std.specs.Prelude.{◌≡◌, true, List, [], ◌∷◌, pos, negsuc, Some, None, replicate}
use Rattle.tx_base.specs.declared.steps.Call.TheVariants.{Map, Load, SysXbegin, SysXbeginDefer, SysXend, SysXabort}
use Rattle.tx_base.specs.declared.steps.Refusal.TheVariants.{NoProcess, NoTransaction}
use Rattle.tx_base.specs.declared.steps.Reply.TheVariants.{Aborted, No}
use Rattle.tx_base.specs.declared.steps.Step.{Step}
use Rattle.tx_model.specs.Memory.{Memory, no_memory}
use Rattle.tx_model.specs.State.{State, booted_process, boot_state}
use Rattle.tx_model.specs.Schedules.{answers_of}
use Rattle.tx_examples.specs.WorkedSteps.{calls, kernel, store, fork, kill, ok, error, committed, state_after, standing, with_one_pending}

-- a transaction that maps a page, stores into it, and aborts itself
abbrev pub taken_back : List Step
taken_back =
    calls 2 SysXbegin ∷ calls 2 (Map (pos 0)) ∷ calls 2 (store (pos 5) (65 ∷ []))
    ∷ calls 2 SysXabort ∷ []

abbrev pub TakenBackAnswers : Type 0
TakenBackAnswers =
    answers_of (boot_state 64 2) [] taken_back ≡ ok 0 ∷ ok 0 ∷ ok 0 ∷ Aborted 201 ∷ []

-- its process is after its sys_xbegin with the status as an error, and has no page; the other is as
-- booted
abbrev pub TakenBackState : Type 0
TakenBackState =
    ((state_after (boot_state 64 2) taken_back).procs 2
    ≡ Some (standing 2 1 (negsuc 200) no_memory))
    × ((state_after (boot_state 64 2) taken_back).procs 1 ≡ Some (booted_process 1))

-- two transactions side by side: the kernel aborts that of process 3, and that of process 2 commits
abbrev pub side_by_side : List Step
side_by_side =
    calls 2 SysXbegin
    ∷ calls 3 SysXbegin
    ∷ calls 2 (Map (pos 0))
    ∷ calls 3 (Map (pos 0))
    ∷ calls 2 SysXbegin
    ∷ calls 3 (store (pos 0) (10 ∷ []))
    ∷ kernel 3
    ∷ calls 2 (store (pos 1) (255 ∷ 0 ∷ []))
    ∷ calls 2 (Load (pos 1))
    ∷ calls 2 SysXend
    ∷ calls 3 SysXend
    ∷ calls 9 (Map (pos 0))
    ∷ []

abbrev pub SideBySideAnswers : Type 0
SideBySideAnswers =
    answers_of (boot_state 64 3) [] side_by_side
    ≡ ok 0
    ∷ ok 0
    ∷ ok 0
    ∷ ok 0
    ∷ error 22
    ∷ ok 0
    ∷ Aborted 202
    ∷ ok 0
    ∷ ok 255
    ∷ committed
    ∷ error 22
    ∷ No NoProcess
    ∷ []

-- one page, which may be written, with 255 in byte 1
abbrev pub stored_page : Memory
stored_page =
    Some (record { writable = true; bytes = 0 ∷ 255 ∷ replicate 62 0 }) ∷ replicate 15 None

abbrev pub SideBySideState : Type 0
SideBySideState =
    ((state_after (boot_state 64 3) side_by_side).procs 1 ≡ Some (booted_process 1))
    × ((state_after (boot_state 64 3) side_by_side).procs 2
    ≡ Some (standing 2 6 (pos 0) stored_page))
    × ((state_after (boot_state 64 3) side_by_side).procs 3
    ≡ Some (standing 3 2 (negsuc 21) no_memory))

-- a transaction does not begin in another one, nor end where there is none; the kernel aborts it
-- only by its starter's number, and any member aborts it
abbrev pub out_of_place : List Step
out_of_place =
    calls 2 SysXend
    ∷ calls 2 SysXabort
    ∷ calls 2 SysXbegin
    ∷ calls 2 SysXbegin
    ∷ calls 2 SysXbeginDefer
    ∷ calls 2 (fork 7)
    ∷ calls 7 SysXbegin
    ∷ kernel 7
    ∷ calls 7 SysXabort
    ∷ calls 2 SysXabort
    ∷ kernel 2
    ∷ []

abbrev pub OutOfPlaceAnswers : Type 0
OutOfPlaceAnswers =
    answers_of (boot_state 64 2) [] out_of_place
    ≡ error 22
    ∷ error 22
    ∷ ok 0
    ∷ error 22
    ∷ error 22
    ∷ ok 7
    ∷ error 22
    ∷ No NoTransaction
    ∷ Aborted 201
    ∷ error 22
    ∷ No NoTransaction
    ∷ []

-- a transaction that its starter begins again after an abort, and commits
abbrev pub begun_again : List Step
begun_again =
    calls 2 SysXbegin
    ∷ calls 2 (kill 3 10)
    ∷ calls 2 (Map (pos 0))
    ∷ calls 2 SysXabort
    ∷ calls 2 SysXbegin
    ∷ calls 2 (Map (pos 1))
    ∷ calls 2 (kill 3 12)
    ∷ calls 2 SysXend
    ∷ []

abbrev pub BegunAgainAnswers : Type 0
BegunAgainAnswers =
    answers_of (boot_state 64 3) [] begun_again
    ≡ ok 0 ∷ ok 0 ∷ ok 0 ∷ Aborted 201 ∷ ok 0 ∷ ok 0 ∷ ok 0 ∷ committed ∷ []

-- page 1 of zeros
abbrev pub second_page : Memory
second_page = None ∷ Some (record { writable = true; bytes = replicate 64 0 }) ∷ replicate 14 None

abbrev pub BegunAgainState : Type 0
BegunAgainState =
    let S : State = state_after (boot_state 64 3) begun_again in
    (S.procs 2 ≡ Some (standing 2 5 (pos 0) second_page))
    × (S.procs 3 ≡ Some (with_one_pending 12 (booted_process 3)))
