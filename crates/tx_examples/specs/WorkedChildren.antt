-- Schedules of children: what they start with, who their parent is, and how their end is reported,
-- worked out to the end. Own rules.
use Rattle.std.specs.Prelude.{◌≡◌, true, false, List, [], ◌∷◌, pos, negsuc, Some, None, replicate}
use Rattle.tx_base.specs.declared.signals.Action.TheVariants.{Ignore, Catch}
use Rattle.tx_base.specs.declared.steps.Call.TheVariants.{Map, Exit, Waitpid, Getppid, Setuid, Sigaction, Sigpending, SysXbegin}
use Rattle.tx_base.specs.declared.steps.Reply.TheVariants.{Ended}
use Rattle.tx_base.specs.declared.steps.Step.{Step}
use Rattle.tx_model.specs.Memory.{Memory, no_memory}
use Rattle.tx_model.specs.State.{Ids, State, boot_state}
use Rattle.tx_model.specs.Schedules.{answers_of}
use Rattle.tx_examples.specs.WorkedSteps.{calls, delivery, fork, pipe, kill, sigqueue, block, catch, store, ok, error, committed, state_after, standing, exited, of_parent, with_slots, with_open, with_one_action, with_mask, with_ids, with_frames, with_one_pending}

-- a process that has caught a signal, and has a page, a pipe and ids of its own, forks
abbrev pub copied : List Step
copied =
    calls 2 (Map (pos 0))
    ∷ calls 2 (store (pos 0) (7 ∷ []))
    ∷ calls 2 (pipe 0 0 1)
    ∷ calls 2 (catch 10 50 0)
    ∷ calls 1 (kill 2 10)
    ∷ delivery 2 10
    ∷ calls 2 (Setuid (pos 5))
    ∷ calls 1 (kill 2 12)
    ∷ calls 1 (sigqueue 2 34 1)
    ∷ calls 2 (fork 3)
    ∷ []

-- the user ids 5, and the group ids 0
abbrev pub user_five : Ids
user_five =
    record {
      real_user = 5;
      effective_user = 5;
      saved_user = 5;
      real_group = 0;
      effective_group = 0;
      saved_group = 0;
    }

-- page 0 with 7 in byte 0
abbrev pub page_with_seven : Memory
page_with_seven = Some (record { writable = true; bytes = 7 ∷ replicate 63 0 }) ∷ replicate 15 None

-- the child has all of that, with the answer 0 and nothing pending
abbrev pub CopiedState : Type 0
CopiedState =
    (state_after (boot_state 64 2) copied).procs 3
    ≡ Some (of_parent 2
    (with_slots (pos 0 ∷ pos 1 ∷ replicate 6 (pos 0))
    (with_open (Some 0 ∷ Some 1 ∷ replicate 14 None)
    (with_one_action 10 (Catch 50 (record { 0 = 0 }))
    (with_mask 1024
    (with_ids user_five
    (with_frames
    (record {
      registers =
          record { point = 4; ret = pos 0; slots = pos 0 ∷ pos 1 ∷ replicate 6 (pos 0) };
      mask = 0;
    }
    ∷ [])
    (standing 3 52 (pos 0) page_with_seven))))))))

-- the children of a process that ends, running or ended, are children of process 1, which waits for
-- them
abbrev pub orphans : List Step
orphans =
    calls 1 (fork 2)
    ∷ calls 2 (fork 3)
    ∷ calls 2 (fork 4)
    ∷ calls 4 (Exit (pos 7))
    ∷ calls 1 (Waitpid (pos 4) true)
    ∷ calls 2 (Exit (pos 0))
    ∷ calls 3 Getppid
    ∷ calls 1 (Waitpid (pos 3) true)
    ∷ calls 1 (Waitpid (pos 4) false)
    ∷ []

abbrev pub OrphansAnswers : Type 0
OrphansAnswers =
    answers_of (boot_state 64 1) [] orphans
    ≡ ok 2 ∷ ok 3 ∷ ok 4 ∷ Ended ∷ error 10 ∷ Ended ∷ ok 1 ∷ ok 0 ∷ ok 4 ∷ []

-- the status that was waited for is in slot 0
abbrev pub OrphansState : Type 0
OrphansState =
    let S : State = state_after (boot_state 64 1) orphans in
    (S.procs 1 ≡ Some (with_slots (pos 7 ∷ replicate 7 (pos 0)) (standing 1 4 (pos 4) no_memory)))
    × (S.procs 4 ≡ None)

-- a child that a signal ended: the status says so, and the parent gets SIGCHLD; there is no waiting
-- for a number of no child
abbrev pub killed_child : List Step
killed_child =
    calls 2 (block 131072)
    ∷ calls 2 (fork 3)
    ∷ calls 2 (kill 3 15)
    ∷ delivery 3 15
    ∷ calls 2 Sigpending
    ∷ calls 2 (Waitpid (pos 0) true)
    ∷ calls 2 (Waitpid (negsuc 2) true)
    ∷ calls 2 (Waitpid (pos 2) true)
    ∷ calls 2 (Waitpid (pos 3) false)
    ∷ []

abbrev pub KilledChildAnswers : Type 0
KilledChildAnswers =
    answers_of (boot_state 64 2) [] killed_child
    ≡ ok 0 ∷ ok 3 ∷ ok 0 ∷ Ended ∷ ok 131072 ∷ error 10 ∷ error 10 ∷ error 10 ∷ ok 3 ∷ []

abbrev pub KilledChildState : Type 0
KilledChildState =
    (state_after (boot_state 64 2) killed_child).procs 2
    ≡ Some
    (with_one_pending 17
    (with_mask 131072
    (with_slots (pos 271 ∷ replicate 7 (pos 0)) (standing 2 8 (pos 3) no_memory))))

-- a child whose end is ignored is there until it is waited for, and SIGCHLD is pending until it is
-- delivered
abbrev pub ignored_child : List Step
ignored_child =
    calls 2 (Sigaction (pos 17) Ignore)
    ∷ calls 2 (fork 3)
    ∷ calls 3 (Exit (pos 4))
    ∷ calls 2 (Waitpid (pos 3) false)
    ∷ []

abbrev pub IgnoredChildAnswers : Type 0
IgnoredChildAnswers =
    answers_of (boot_state 64 2) [] ignored_child ≡ ok 0 ∷ ok 3 ∷ Ended ∷ ok 3 ∷ []

abbrev pub IgnoredChildState : Type 0
IgnoredChildState =
    (state_after (boot_state 64 2) ignored_child).procs 2
    ≡ Some
    (with_one_pending 17
    (with_one_action 17 Ignore
    (with_slots (pos 4 ∷ replicate 7 (pos 0)) (standing 2 3 (pos 3) no_memory))))

-- what is left of a process that has ended: its parent, its ids and its status
abbrev pub left_over : List Step
left_over =
    calls 2 (Setuid (pos 5))
    ∷ calls 2 (Map (pos 0))
    ∷ calls 2 (pipe 0 0 1)
    ∷ calls 2 (catch 10 50 0)
    ∷ calls 2 (block 4096)
    ∷ calls 1 (kill 2 10)
    ∷ calls 1 (kill 2 12)
    ∷ calls 1 (sigqueue 2 34 1)
    ∷ delivery 2 10
    ∷ calls 2 (Exit (pos 6))
    ∷ []

abbrev pub LeftOverState : Type 0
LeftOverState =
    (state_after (boot_state 64 2) left_over).procs 2 ≡ Some (with_ids user_five (exited 6))

-- a signal from outside ends the only member of a transaction, which commits by that
abbrev pub killed_commit : List Step
killed_commit =
    calls 2 SysXbegin ∷ calls 2 (Map (pos 0)) ∷ calls 3 (kill 2 15) ∷ delivery 2 15
    ∷ calls 1 (Waitpid (pos 2) false) ∷ []

abbrev pub KilledCommitAnswers : Type 0
KilledCommitAnswers =
    answers_of (boot_state 64 3) [] killed_commit ≡ ok 0 ∷ ok 0 ∷ ok 0 ∷ committed ∷ ok 2 ∷ []

abbrev pub KilledCommitState : Type 0
KilledCommitState =
    (state_after (boot_state 64 3) killed_commit).procs 1
    ≡ Some (with_slots (pos 271 ∷ replicate 7 (pos 0)) (standing 1 1 (pos 2) no_memory))
