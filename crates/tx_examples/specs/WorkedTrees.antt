-- Schedules of children, exits and waits that are worked out to the end. Own rules.
use Rattle.std.specs.Prelude.{◌≡◌, true, false, List, [], ◌∷◌, ◌++◌, pos, negsuc, Some, None, replicate}
use Rattle.tx_base.specs.declared.steps.Call.TheVariants.{Map, Exit, Waitpid, Getpid, Setuid, Seteuid, Setgid, Setegid, Sigpending, SysXbegin, SysXend, SysXabort}
use Rattle.tx_base.specs.declared.steps.Refusal.TheVariants.{Wait, Parked}
use Rattle.tx_base.specs.declared.steps.Reply.TheVariants.{Ended, Aborted, No}
use Rattle.tx_base.specs.declared.steps.Step.{Step}
use Rattle.tx_model.specs.Memory.{no_memory}
use Rattle.tx_model.specs.State.{Ids, State, booted_process, boot_state}
use Rattle.tx_model.specs.View.{View}
use Rattle.tx_model.specs.Schedules.{answers_of}
use Rattle.tx_examples.specs.WorkedSteps.{calls, store, fork, kill, sigqueue, block, ok, error, committed, busy_with, marked, view_after, state_after, standing, exited, of_parent, with_slots, with_ids, with_one_pending}

-- a child that was forked inside goes with the abort, even if it has ended, and its number is free
-- again
abbrev pub child_undone : List Step
child_undone =
    calls 2 SysXbegin
    ∷ calls 2 (fork 7)
    ∷ calls 7 (Map (pos 0))
    ∷ calls 7 (store (pos 0) (255 ∷ []))
    ∷ calls 7 (Exit (pos 3))
    ∷ calls 2 SysXabort
    ∷ calls 1 (fork 7)
    ∷ []

abbrev pub ChildUndoneAnswers : Type 0
ChildUndoneAnswers =
    answers_of (boot_state 64 2) [] child_undone
    ≡ ok 0 ∷ ok 7 ∷ ok 0 ∷ ok 0 ∷ Ended ∷ Aborted 201 ∷ ok 7 ∷ []

abbrev pub ChildUndoneState : Type 0
ChildUndoneState =
    let S : State = state_after (boot_state 64 2) child_undone in
    (S.procs 1 ≡ Some (standing 1 1 (pos 7) no_memory))
    × (S.procs 2 ≡ Some (standing 2 1 (negsuc 200) no_memory))
    × (S.procs 7 ≡ Some (standing 7 1 (pos 0) no_memory))

-- a child that was forked inside is a member, and ends its part
abbrev pub child_parked : List Step
child_parked = calls 2 SysXbegin ∷ calls 2 (fork 7) ∷ calls 7 SysXend ∷ []

abbrev pub ChildParkedState : Type 0
ChildParkedState =
    let V : View = view_after (boot_state 64 2) child_parked in
    (V.table.marks 1 ≡ None)
    × (V.table.marks 2 ≡ marked 2 false false)
    × (V.table.marks 7 ≡ marked 2 true false)

-- it waits for its starter, whose exit commits
abbrev pub exit_commits : List Step
exit_commits = child_parked ++ calls 7 Getpid ∷ calls 2 (Exit (pos 5)) ∷ calls 7 Getpid ∷ []

abbrev pub ExitCommitsAnswers : Type 0
ExitCommitsAnswers =
    answers_of (boot_state 64 2) [] exit_commits
    ≡ ok 0 ∷ ok 7 ∷ ok 0 ∷ No Parked ∷ committed ∷ ok 7 ∷ []

abbrev pub ExitCommitsState : Type 0
ExitCommitsState =
    let S : State = state_after (boot_state 64 2) exit_commits in
    (S.procs 1 ≡ Some (booted_process 1))
    × (S.procs 2 ≡ Some (exited 5))
    × (S.procs 7 ≡ Some (standing 7 4 (pos 7) no_memory))
    × ((view_after (boot_state 64 2) exit_commits).table.marks 7 ≡ None)

-- a starter that ended is not waited for while its child may still abort, which brings it back
abbrev pub exit_undone : List Step
exit_undone =
    calls 2 SysXbegin
    ∷ calls 2 (fork 7)
    ∷ calls 2 (Exit (pos 4))
    ∷ calls 1 (Waitpid (pos 2) false)
    ∷ calls 7 SysXabort
    ∷ calls 1 (Waitpid (pos 2) true)
    ∷ []

abbrev pub ExitUndoneAnswers : Type 0
ExitUndoneAnswers =
    answers_of (boot_state 64 2) [] exit_undone
    ≡ ok 0 ∷ ok 7 ∷ Ended ∷ busy_with 2 ∷ Aborted 201 ∷ ok 0 ∷ []

abbrev pub ExitUndoneState : Type 0
ExitUndoneState =
    let S : State = state_after (boot_state 64 2) exit_undone in
    (S.procs 1 ≡ Some (standing 1 1 (pos 0) no_memory))
    × (S.procs 2 ≡ Some (standing 2 1 (negsuc 200) no_memory))
    × (S.procs 7 ≡ None)

-- a number is forked, waited for and forked again inside: the second child is a member whose part
-- has not ended
abbrev pub forked_again : List Step
forked_again =
    calls 2 SysXbegin
    ∷ calls 2 (fork 7)
    ∷ calls 7 (Exit (pos 1))
    ∷ calls 2 (Waitpid (pos 7) false)
    ∷ calls 2 (fork 7)
    ∷ calls 2 SysXend
    ∷ calls 2 Getpid
    ∷ calls 7 SysXend
    ∷ []

abbrev pub ForkedAgainAnswers : Type 0
ForkedAgainAnswers =
    answers_of (boot_state 64 2) [] forked_again
    ≡ ok 0 ∷ ok 7 ∷ Ended ∷ ok 7 ∷ ok 7 ∷ ok 0 ∷ No Parked ∷ committed ∷ []

-- both have the status in slot 0, and SIGCHLD of the first child is pending
abbrev pub ForkedAgainState : Type 0
ForkedAgainState =
    let S : State = state_after (boot_state 64 2) forked_again in
    (S.procs 1 ≡ Some (booted_process 1))
    × (S.procs 2
    ≡ Some
    (with_one_pending 17
    (with_slots (pos 1 ∷ replicate 7 (pos 0)) (standing 2 5 (pos 0) no_memory))))
    × (S.procs 7
    ≡ Some
    (of_parent 2
    (with_slots (pos 1 ∷ replicate 7 (pos 0)) (standing 7 5 (pos 0) no_memory))))

-- process 1 is notified of no child's end: process 3 may end while process 1 is reserved, and for
-- process 2 nothing is held
abbrev pub first_not_told : List Step
first_not_told =
    calls 2 SysXbegin
    ∷ calls 2 (Waitpid (pos 1) false)
    ∷ calls 3 (Exit (pos 0))
    ∷ calls 2 (fork 7)
    ∷ calls 2 (Exit (pos 4))
    ∷ []

abbrev pub FirstNotToldAnswers : Type 0
FirstNotToldAnswers =
    answers_of (boot_state 64 3) [] first_not_told ≡ ok 0 ∷ error 10 ∷ Ended ∷ ok 7 ∷ Ended ∷ []

abbrev pub FirstNotToldState : Type 0
FirstNotToldState =
    let S : State = state_after (boot_state 64 3) first_not_told in
    (S.procs 1 ≡ Some (booted_process 1))
    × (S.procs 2 ≡ Some (exited 4))
    × (S.procs 3 ≡ Some (exited 0))
    × (S.procs 7 ≡ Some (standing 7 3 (pos 0) no_memory))
    × (S.held 2 ≡ [])

-- a member is notified at once of the end of its child, and an abort takes that back
abbrev pub told_inside : List Step
told_inside =
    calls 2 (block 131072)
    ∷ calls 2 SysXbegin
    ∷ calls 2 (fork 7)
    ∷ calls 7 (Exit (pos 0))
    ∷ calls 2 Sigpending
    ∷ calls 2 SysXabort
    ∷ calls 2 Sigpending
    ∷ []

abbrev pub ToldInsideAnswers : Type 0
ToldInsideAnswers =
    answers_of (boot_state 64 2) [] told_inside
    ≡ ok 0 ∷ ok 0 ∷ ok 7 ∷ Ended ∷ ok 131072 ∷ Aborted 201 ∷ ok 0 ∷ []

-- a child has the mask of its parent, but none of its pending signals
abbrev pub child_starts_clear : List Step
child_starts_clear =
    calls 2 (block 17179870208)
    ∷ calls 3 (kill 2 10)
    ∷ calls 3 (sigqueue 2 34 7)
    ∷ calls 2 Sigpending
    ∷ calls 2 (fork 4)
    ∷ calls 4 Sigpending
    ∷ calls 3 (kill 4 10)
    ∷ calls 4 Sigpending
    ∷ []

abbrev pub ChildStartsClearAnswers : Type 0
ChildStartsClearAnswers =
    answers_of (boot_state 64 3) [] child_starts_clear
    ≡ ok 0 ∷ ok 0 ∷ ok 0 ∷ ok 17179870208 ∷ ok 4 ∷ ok 0 ∷ ok 0 ∷ ok 1024 ∷ []

-- ids that are given up, which decide about signals, and the status of an exit, modulo 256
abbrev pub ids : List Step
ids =
    calls 2 (Setgid (pos 3))
    ∷ calls 2 (fork 3)
    ∷ calls 3 (Setuid (pos 5))
    ∷ calls 3 (Setuid (pos 6))
    ∷ calls 3 (Seteuid (pos 0))
    ∷ calls 3 (Setgid (pos 0))
    ∷ calls 3 (Setegid (pos 3))
    ∷ calls 3 (Setuid (pos 65536))
    ∷ calls 2 (Seteuid (pos 7))
    ∷ calls 2 (Setuid (pos 8))
    ∷ calls 3 (kill 2 0)
    ∷ calls 2 (kill 3 0)
    ∷ calls 2 (Setuid (pos 0))
    ∷ calls 2 (kill 3 0)
    ∷ calls 3 (Exit (pos 259))
    ∷ calls 2 (Waitpid (pos 3) false)
    ∷ []

abbrev pub IdsAnswers : Type 0
IdsAnswers =
    answers_of (boot_state 64 2) [] ids
    ≡ ok 0
    ∷ ok 3
    ∷ ok 0
    ∷ error 1
    ∷ error 1
    ∷ error 1
    ∷ ok 0
    ∷ error 22
    ∷ ok 0
    ∷ error 1
    ∷ error 1
    ∷ error 1
    ∷ ok 0
    ∷ ok 0
    ∷ Ended
    ∷ ok 3
    ∷ []

-- the user ids 0, and the group ids 3
abbrev pub in_group_three : Ids
in_group_three =
    record {
      real_user = 0;
      effective_user = 0;
      saved_user = 0;
      real_group = 3;
      effective_group = 3;
      saved_group = 3;
    }

abbrev pub IdsState : Type 0
IdsState =
    let S : State = state_after (boot_state 64 2) ids in
    (S.procs 2
    ≡ Some
    (with_one_pending 17
    (with_ids in_group_three
    (with_slots (pos 3 ∷ replicate 7 (pos 0)) (standing 2 8 (pos 3) no_memory)))))
    × (S.procs 3 ≡ None)

-- waits for a child that runs, for others, and for one that ended; process 1 does not end
abbrev pub waits : List Step
waits =
    calls 2 (fork 3)
    ∷ calls 2 (Waitpid (pos 3) false)
    ∷ calls 2 (Waitpid (pos 3) true)
    ∷ calls 2 (Waitpid (pos 1) true)
    ∷ calls 2 (Waitpid (pos 65) true)
    ∷ calls 3 (Exit (negsuc 0))
    ∷ calls 2 (Waitpid (pos 3) true)
    ∷ calls 2 (Waitpid (pos 3) false)
    ∷ calls 1 (Exit (pos 0))
    ∷ []

abbrev pub WaitsAnswers : Type 0
WaitsAnswers =
    answers_of (boot_state 64 2) [] waits
    ≡ ok 3
    ∷ No Wait
    ∷ ok 0
    ∷ error 10
    ∷ error 10
    ∷ Ended
    ∷ ok 3
    ∷ error 10
    ∷ error 1
    ∷ []

abbrev pub WaitsState : Type 0
WaitsState =
    let S : State = state_after (boot_state 64 2) waits in
    (S.procs 1 ≡ Some (standing 1 1 (negsuc 0) no_memory))
    × (S.procs 2
    ≡ Some
    (with_one_pending 17
    (with_slots (pos 255 ∷ replicate 7 (pos 0)) (standing 2 6 (negsuc 9) no_memory))))
    × (S.procs 3 ≡ None)
