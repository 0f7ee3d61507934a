-- Schedules of SIGKILL that are worked out to the end. Own rules.
use Rattle.std.specs.Prelude.{◌≡◌, List, [], ◌∷◌, ◌++◌, pos, negsuc, Some, None}
use Rattle.tx_base.specs.declared.steps.Call.TheVariants.{Exit, Getpid, SysXbegin, SysXbeginDefer, SysXend, SysXabort}
use Rattle.tx_base.specs.declared.steps.Refusal.TheVariants.{BadNumber, Doomed, KillPending, Deferred}
use Rattle.tx_base.specs.declared.steps.Reply.TheVariants.{Ended, Aborted, No}
use Rattle.tx_base.specs.declared.steps.Step.{Step}
use Rattle.tx_model.specs.Memory.{no_memory}
use Rattle.tx_model.specs.State.{State, booted_process, boot_state}
use Rattle.tx_model.specs.Schedules.{answers_of}
use Rattle.tx_examples.specs.WorkedSteps.{calls, delivery, kernel, fork, kill, ok, committed, state_after, standing, killed_by}

-- an outsider's SIGKILL dooms the transaction of a starter: it can only be aborted
abbrev pub doomed : List Step
doomed =
    calls 2 SysXbegin
    ∷ calls 2 (fork 7)
    ∷ calls 3 (kill 2 9)
    ∷ calls 7 Getpid
    ∷ calls 2 Getpid
    ∷ kernel 2
    ∷ calls 2 Getpid
    ∷ delivery 2 9
    ∷ []

abbrev pub DoomedAnswers : Type 0
DoomedAnswers =
    answers_of (boot_state 64 3) [] doomed
    ≡ ok 0 ∷ ok 7 ∷ ok 0 ∷ No Doomed ∷ No Doomed ∷ Aborted 203 ∷ No KillPending ∷ Ended ∷ []

abbrev pub DoomedState : Type 0
DoomedState =
    let S : State = state_after (boot_state 64 3) doomed in
    (S.procs 1 ≡ Some (booted_process 1))
    × (S.procs 2 ≡ Some (killed_by 9))
    × (S.procs 3 ≡ Some (standing 3 1 (pos 0) no_memory))
    × (S.procs 7 ≡ None)

-- also where the starter has ended: the abort brings it back, and SIGKILL ends it
abbrev pub ended_then_doomed : List Step
ended_then_doomed =
    calls 2 SysXbegin
    ∷ calls 2 (fork 7)
    ∷ calls 2 (Exit (pos 1))
    ∷ calls 3 (kill 2 9)
    ∷ calls 7 SysXend
    ∷ kernel 2
    ∷ delivery 2 9
    ∷ []

abbrev pub EndedThenDoomedAnswers : Type 0
EndedThenDoomedAnswers =
    answers_of (boot_state 64 3) [] ended_then_doomed
    ≡ ok 0 ∷ ok 7 ∷ Ended ∷ ok 0 ∷ No Doomed ∷ Aborted 203 ∷ Ended ∷ []

abbrev pub EndedThenDoomedState : Type 0
EndedThenDoomedState =
    (state_after (boot_state 64 3) ended_then_doomed).procs 2 ≡ Some (killed_by 9)

-- a member's SIGKILL to its starter dooms nothing: the starter ends inside
abbrev pub killed_inside : List Step
killed_inside =
    calls 2 SysXbegin
    ∷ calls 2 (fork 7)
    ∷ calls 7 (kill 2 9)
    ∷ calls 2 Getpid
    ∷ calls 7 Getpid
    ∷ delivery 2 9
    ∷ []

abbrev pub member_kills : List Step
member_kills = killed_inside ++ calls 7 SysXend ∷ []

abbrev pub MemberKillsAnswers : Type 0
MemberKillsAnswers =
    answers_of (boot_state 64 2) [] member_kills
    ≡ ok 0 ∷ ok 7 ∷ ok 0 ∷ No KillPending ∷ ok 7 ∷ Ended ∷ committed ∷ []

abbrev pub MemberKillsState : Type 0
MemberKillsState =
    let S : State = state_after (boot_state 64 2) member_kills in
    (S.procs 1 ≡ Some (booted_process 1))
    × (S.procs 2 ≡ Some (killed_by 9))
    × (S.procs 7 ≡ Some (standing 7 5 (pos 0) no_memory))

-- and an abort takes the signal back with the child that sent it
abbrev pub kill_undone : List Step
kill_undone = killed_inside ++ calls 7 SysXabort ∷ []

abbrev pub KillUndoneAnswers : Type 0
KillUndoneAnswers =
    answers_of (boot_state 64 2) [] kill_undone
    ≡ ok 0 ∷ ok 7 ∷ ok 0 ∷ No KillPending ∷ ok 7 ∷ Ended ∷ Aborted 201 ∷ []

abbrev pub KillUndoneState : Type 0
KillUndoneState =
    let S : State = state_after (boot_state 64 2) kill_undone in
    (S.procs 1 ≡ Some (booted_process 1))
    × (S.procs 2 ≡ Some (standing 2 1 (negsuc 200) no_memory))
    × (S.procs 7 ≡ None)

-- on a wide machine, a transaction that defers deliveries: that of SIGKILL is still made
abbrev pub deferred : List Step
deferred =
    calls 2 SysXbeginDefer
    ∷ calls 3 (kill 2 10)
    ∷ delivery 2 10
    ∷ calls 2 (fork 256)
    ∷ calls 256 (kill 2 9)
    ∷ delivery 2 9
    ∷ calls 256 SysXend
    ∷ []

abbrev pub DeferredAnswers : Type 0
DeferredAnswers =
    answers_of (boot_state 256 3) [] deferred
    ≡ ok 0 ∷ ok 0 ∷ No Deferred ∷ ok 256 ∷ ok 0 ∷ Ended ∷ committed ∷ []

abbrev pub DeferredState : Type 0
DeferredState =
    let S : State = state_after (boot_state 256 3) deferred in
    (S.procs 1 ≡ Some (booted_process 1))
    × (S.procs 2 ≡ Some (killed_by 9))
    × (S.procs 3 ≡ Some (standing 3 1 (pos 0) no_memory))
    × (S.procs 256 ≡ Some (standing 256 4 (pos 0) no_memory))

-- a wide machine has no process 257
abbrev pub past_width : List Step
past_width = calls 256 (fork 257) ∷ []

abbrev pub PastWidthAnswers : Type 0
PastWidthAnswers = answers_of (boot_state 256 256) [] past_width ≡ No BadNumber ∷ []
