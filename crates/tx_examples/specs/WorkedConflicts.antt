-- Schedules in which a transaction is in the way of a step, worked out to the end. Own rules.
use Rattle.std.specs.Prelude.{◌≡◌, true, false, List, [], ◌∷◌, ◌++◌, pos, negsuc, Some, None, replicate}
use Rattle.tx_base.specs.declared.signals.Action.TheVariants.{Ignore}
use Rattle.tx_base.specs.declared.steps.Call.TheVariants.{Exit, Waitpid, Setuid, SetNonblock, Sigaction, SysXbegin, SysXend, SysXabort}
use Rattle.tx_base.specs.declared.steps.Reply.TheVariants.{Ended, Aborted}
use Rattle.tx_base.specs.declared.steps.Step.{Step}
use Rattle.tx_model.specs.Memory.{no_memory}
use Rattle.tx_model.specs.State.{ReadSide, WriteSide, State, boot_state}
use Rattle.tx_model.specs.Schedules.{answers_of}
use Rattle.tx_examples.specs.WorkedSteps.{calls, delivery, kernel, fork, pipe, kill, sigqueue, ok, error, committed, busy_with, state_after, standing, with_slots, with_open, described}

-- whether process 3 may signal a starter depends on the ids that it takes inside: the commit and
-- the abort answer otherwise
abbrev pub undecided_kill : List Step
undecided_kill =
    calls 3 (Setuid (pos 5))
    ∷ calls 2 SysXbegin
    ∷ calls 2 (Setuid (pos 5))
    ∷ calls 3 (kill 2 0)
    ∷ calls 2 SysXabort
    ∷ calls 3 (kill 2 0)
    ∷ []

abbrev pub UndecidedKillAnswers : Type 0
UndecidedKillAnswers =
    answers_of (boot_state 64 3) [] undecided_kill
    ≡ ok 0 ∷ ok 0 ∷ ok 0 ∷ busy_with 2 ∷ Aborted 201 ∷ error 1 ∷ []

-- two transactions wait for a description of each other, until the kernel aborts one
abbrev pub crossed : List Step
crossed =
    calls 1 (pipe 0 0 1)
    ∷ calls 1 (pipe 1 2 3)
    ∷ calls 1 (fork 2)
    ∷ calls 1 (fork 3)
    ∷ calls 2 SysXbegin
    ∷ calls 3 SysXbegin
    ∷ calls 2 (SetNonblock (pos 0) true)
    ∷ calls 3 (SetNonblock (pos 2) true)
    ∷ calls 2 (SetNonblock (pos 2) true)
    ∷ calls 3 (SetNonblock (pos 0) true)
    ∷ kernel 2
    ∷ calls 3 (SetNonblock (pos 0) true)
    ∷ calls 3 SysXend
    ∷ []

abbrev pub CrossedAnswers : Type 0
CrossedAnswers =
    answers_of (boot_state 64 1) [] crossed
    ≡ ok 0
    ∷ ok 0
    ∷ ok 2
    ∷ ok 3
    ∷ ok 0
    ∷ ok 0
    ∷ ok 0
    ∷ ok 0
    ∷ busy_with 3
    ∷ busy_with 2
    ∷ Aborted 202
    ∷ ok 0
    ∷ committed
    ∷ []

-- process 2 has its descriptors as it was forked with them
abbrev pub CrossedState : Type 0
CrossedState =
    let S : State = state_after (boot_state 64 1) crossed in
    (S.procs 2
    ≡ Some (with_slots (pos 2 ∷ pos 3 ∷ replicate 6 (pos 0))
    (with_open (Some 0 ∷ Some 1 ∷ Some 2 ∷ Some 3 ∷ replicate 12 None)
    (standing 2 4 (negsuc 201) no_memory))))
    × (S.descs 0 ≡ described 0 ReadSide true)
    × (S.descs 1 ≡ described 0 WriteSide false)
    × (S.descs 2 ≡ described 1 ReadSide true)

-- a process may not end while a child of it has begun a transaction
abbrev pub child_inside : List Step
child_inside = calls 2 (fork 3) ∷ calls 3 SysXbegin ∷ calls 2 (Exit (pos 0)) ∷ []

abbrev pub ChildInsideAnswers : Type 0
ChildInsideAnswers = answers_of (boot_state 64 2) [] child_inside ≡ ok 3 ∷ ok 0 ∷ busy_with 3 ∷ []

-- a process may not fork while a transaction has changed a description that its child would name
-- too
abbrev pub forked_description : List Step
forked_description =
    calls 1 (pipe 0 0 1)
    ∷ calls 1 (fork 2)
    ∷ calls 1 (fork 3)
    ∷ calls 2 SysXbegin
    ∷ calls 2 (SetNonblock (pos 0) true)
    ∷ calls 3 (fork 4)
    ∷ calls 2 SysXend
    ∷ calls 3 (fork 4)
    ∷ []

abbrev pub ForkedDescriptionAnswers : Type 0
ForkedDescriptionAnswers =
    answers_of (boot_state 64 1) [] forked_description
    ≡ ok 0 ∷ ok 2 ∷ ok 3 ∷ ok 0 ∷ ok 0 ∷ busy_with 2 ∷ committed ∷ ok 4 ∷ []

-- a process may not end while a transaction has reserved its parent, which would be notified
abbrev pub reserved_parent : List Step
reserved_parent =
    calls 2 (fork 4)
    ∷ calls 3 SysXbegin
    ∷ calls 3 (Waitpid (pos 2) true)
    ∷ calls 4 (Exit (pos 0))
    ∷ calls 3 SysXend
    ∷ calls 4 (Exit (pos 0))
    ∷ []

abbrev pub ReservedParentAnswers : Type 0
ReservedParentAnswers =
    answers_of (boot_state 64 3) [] reserved_parent
    ≡ ok 4 ∷ ok 0 ∷ error 10 ∷ busy_with 3 ∷ committed ∷ Ended ∷ []

-- of two transactions in the way, that of the least starter is named, whichever began first
abbrev pub least_starter_in_way : List Step
least_starter_in_way =
    calls 2 (fork 3)
    ∷ calls 2 (fork 5)
    ∷ calls 5 SysXbegin
    ∷ calls 3 SysXbegin
    ∷ calls 2 (Exit (pos 0))
    ∷ calls 3 SysXend
    ∷ calls 2 (Exit (pos 0))
    ∷ []

abbrev pub LeastStarterAnswers : Type 0
LeastStarterAnswers =
    answers_of (boot_state 64 2) [] least_starter_in_way
    ≡ ok 3 ∷ ok 5 ∷ ok 0 ∷ ok 0 ∷ busy_with 3 ∷ committed ∷ busy_with 5 ∷ []

-- a starter took a signal from its full queue: whether there is room for one more is not known yet
abbrev pub room_inside : List Step
room_inside =
    calls 2 (Sigaction (pos 32) Ignore)
    ∷ replicate 16 (calls 3 (sigqueue 2 32 0))
    ++ calls 2 SysXbegin
    ∷ delivery 2 32
    ∷ calls 3 (sigqueue 2 32 9)
    ∷ []

-- after the abort the queue is full again
abbrev pub room_undone : List Step
room_undone = room_inside ++ calls 2 SysXabort ∷ calls 3 (sigqueue 2 32 9) ∷ []

abbrev pub RoomUndoneAnswers : Type 0
RoomUndoneAnswers =
    answers_of (boot_state 64 3) [] room_undone
    ≡ replicate 19 (ok 0) ++ busy_with 2 ∷ Aborted 201 ∷ error 11 ∷ []

-- after the commit there is room
abbrev pub room_made : List Step
room_made = room_inside ++ calls 2 SysXend ∷ calls 3 (sigqueue 2 32 9) ∷ []

abbrev pub RoomMadeAnswers : Type 0
RoomMadeAnswers =
    answers_of (boot_state 64 3) [] room_made
    ≡ replicate 19 (ok 0) ++ busy_with 2 ∷ committed ∷ ok 0 ∷ []
