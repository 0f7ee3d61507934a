-- Schedules of what each step names, worked out to the end: what a transaction reserved is in its
-- way. Own rules.
use Rattle.std.specs.Prelude.{◌≡◌, true, false, List, [], ◌∷◌, ◌++◌, pos}
use Rattle.tx_base.specs.declared.steps.Call.TheVariants.{Map, Exit, Waitpid, Dup, Dup2, Close, SetNonblock, Read, Write, Getpid, SysXbegin, SysXbeginDefer, SysXend, SysXabort}
use Rattle.tx_base.specs.declared.steps.Refusal.TheVariants.{NotDeliverable, Deferred}
use Rattle.tx_base.specs.declared.steps.Reply.TheVariants.{Ended, Aborted, No}
use Rattle.tx_base.specs.declared.steps.Step.{Step}
use Rattle.tx_model.specs.State.{boot_state}
use Rattle.tx_model.specs.Schedules.{answers_of}
use Rattle.tx_examples.specs.WorkedSteps.{calls, delivery, fork, pipe, kill, sigqueue, block, ok, error, committed, busy_with}

-- processes 1, 2 and 3 have one page and the two sides of a pipe; process 3 has closed its write
-- side
abbrev pub shared_pipe : List Step
shared_pipe =
    calls 1 (Map (pos 0)) ∷ calls 1 (pipe 0 0 1) ∷ calls 1 (fork 2) ∷ calls 1 (fork 3)
    ∷ calls 3 (Close (pos 1)) ∷ []

-- a transaction has changed the flag of the read side: what names that description is refused, also
-- a dup2 with a wrong descriptor and a read of no byte
abbrev pub changed_description : List Step
changed_description =
    shared_pipe
    ++ calls 2 SysXbegin
    ∷ calls 2 (SetNonblock (pos 0) true)
    ∷ calls 1 (Dup (pos 0))
    ∷ calls 1 (Dup2 (pos 0) (pos 0))
    ∷ calls 1 (Dup2 (pos 0) (pos 5))
    ∷ calls 1 (Dup2 (pos 1) (pos 0))
    ∷ calls 1 (Dup2 (pos 5) (pos 0))
    ∷ calls 1 (Dup2 (pos 0) (pos 16))
    ∷ calls 1 (Close (pos 0))
    ∷ calls 1 (SetNonblock (pos 0) false)
    ∷ calls 1 (Read (pos 0) (pos 0) (pos 0))
    ∷ calls 3 (Exit (pos 0))
    ∷ calls 1 (Dup (pos 1))
    ∷ calls 1 (Write (pos 1) (pos 0) (pos 1))
    ∷ calls 1 (Close (pos 5))
    ∷ calls 2 SysXend
    ∷ calls 1 (Dup2 (pos 1) (pos 0))
    ∷ []

abbrev pub ChangedDescriptionAnswers : Type 0
ChangedDescriptionAnswers =
    answers_of (boot_state 64 1) [] changed_description
    ≡ ok 0
    ∷ ok 0
    ∷ ok 2
    ∷ ok 3
    ∷ ok 0
    ∷ ok 0
    ∷ ok 0
    ∷ busy_with 2
    ∷ busy_with 2
    ∷ busy_with 2
    ∷ busy_with 2
    ∷ busy_with 2
    ∷ busy_with 2
    ∷ busy_with 2
    ∷ busy_with 2
    ∷ busy_with 2
    ∷ busy_with 2
    ∷ ok 2
    ∷ ok 1
    ∷ error 9
    ∷ committed
    ∷ ok 0
    ∷ []

-- a transaction has changed the flag of the write side: a write is refused, and a read is not
abbrev pub changed_writer : List Step
changed_writer =
    shared_pipe
    ++ calls 2 SysXbegin
    ∷ calls 2 (SetNonblock (pos 1) true)
    ∷ calls 1 (Write (pos 1) (pos 0) (pos 1))
    ∷ calls 1 (Read (pos 0) (pos 0) (pos 0))
    ∷ []

abbrev pub ChangedWriterAnswers : Type 0
ChangedWriterAnswers =
    answers_of (boot_state 64 1) [] changed_writer
    ≡ ok 0 ∷ ok 0 ∷ ok 2 ∷ ok 3 ∷ ok 0 ∷ ok 0 ∷ ok 0 ∷ busy_with 2 ∷ ok 0 ∷ []

-- a transaction has written to the pipe: what names the pipe by its other side is refused, also a
-- close that is not the last one. A dup and a flag name only the description
abbrev pub written_pipe : List Step
written_pipe =
    shared_pipe
    ++ calls 1 (pipe 1 2 3)
    ∷ calls 2 SysXbegin
    ∷ calls 2 (Write (pos 1) (pos 0) (pos 1))
    ∷ calls 1 (Read (pos 0) (pos 0) (pos 1))
    ∷ calls 1 (Close (pos 0))
    ∷ calls 1 (Dup2 (pos 2) (pos 0))
    ∷ calls 1 (Dup2 (pos 9) (pos 0))
    ∷ calls 3 (Exit (pos 0))
    ∷ calls 1 (Dup (pos 0))
    ∷ calls 1 (Dup2 (pos 0) (pos 2))
    ∷ calls 1 (SetNonblock (pos 0) true)
    ∷ calls 2 SysXend
    ∷ []

abbrev pub WrittenPipeAnswers : Type 0
WrittenPipeAnswers =
    answers_of (boot_state 64 1) [] written_pipe
    ≡ ok 0
    ∷ ok 0
    ∷ ok 2
    ∷ ok 3
    ∷ ok 0
    ∷ ok 0
    ∷ ok 0
    ∷ ok 1
    ∷ busy_with 2
    ∷ busy_with 2
    ∷ busy_with 2
    ∷ busy_with 2
    ∷ busy_with 2
    ∷ ok 4
    ∷ ok 2
    ∷ ok 0
    ∷ committed
    ∷ []

-- a transaction has copied a descriptor to itself, which names only the description: the pipe may
-- be written
abbrev pub same_descriptor : List Step
same_descriptor =
    calls 1 (Map (pos 0))
    ∷ calls 1 (pipe 0 0 1)
    ∷ calls 1 (fork 2)
    ∷ calls 2 SysXbegin
    ∷ calls 2 (Dup2 (pos 0) (pos 0))
    ∷ calls 1 (Write (pos 1) (pos 0) (pos 1))
    ∷ calls 1 (Dup (pos 0))
    ∷ []

abbrev pub SameDescriptorAnswers : Type 0
SameDescriptorAnswers =
    answers_of (boot_state 64 1) [] same_descriptor
    ≡ ok 0 ∷ ok 0 ∷ ok 2 ∷ ok 0 ∷ ok 0 ∷ ok 1 ∷ busy_with 2 ∷ []

-- a transaction has read from the pipe, be it no byte: a write is refused, and a close of the write
-- side
abbrev pub read_pipe : List Step
read_pipe =
    shared_pipe
    ++ calls 2 SysXbegin
    ∷ calls 2 (Read (pos 0) (pos 0) (pos 0))
    ∷ calls 1 (Write (pos 1) (pos 0) (pos 1))
    ∷ calls 1 (Close (pos 1))
    ∷ calls 1 (Dup (pos 1))
    ∷ []

abbrev pub ReadPipeAnswers : Type 0
ReadPipeAnswers =
    answers_of (boot_state 64 1) [] read_pipe
    ≡ ok 0 ∷ ok 0 ∷ ok 2 ∷ ok 3 ∷ ok 0 ∷ ok 0 ∷ ok 0 ∷ busy_with 2 ∷ busy_with 2 ∷ ok 2 ∷ []

-- a transaction has given up the numbers of a child, a pipe and two descriptions: none of them may
-- be chosen by others
abbrev pub chosen_numbers : List Step
chosen_numbers =
    calls 2 SysXbegin
    ∷ calls 2 (pipe 4 8 9)
    ∷ calls 2 (Close (pos 0))
    ∷ calls 2 (Close (pos 1))
    ∷ calls 2 (fork 7)
    ∷ calls 7 (Exit (pos 0))
    ∷ calls 2 (Waitpid (pos 7) false)
    ∷ calls 3 (pipe 4 1 2)
    ∷ calls 3 (pipe 5 8 1)
    ∷ calls 3 (pipe 5 1 9)
    ∷ calls 3 (fork 7)
    ∷ calls 3 (pipe 5 1 2)
    ∷ calls 3 (fork 8)
    ∷ []

abbrev pub ChosenNumbersAnswers : Type 0
ChosenNumbersAnswers =
    answers_of (boot_state 64 3) [] chosen_numbers
    ≡ ok 0
    ∷ ok 0
    ∷ ok 0
    ∷ ok 0
    ∷ ok 7
    ∷ Ended
    ∷ ok 7
    ∷ busy_with 2
    ∷ busy_with 2
    ∷ busy_with 2
    ∷ busy_with 2
    ∷ ok 0
    ∷ ok 8
    ∷ []

-- a transaction has reserved a process: its own steps are refused, waits for it, and signals to it,
-- also 0; an unknown signal is not sent to it
abbrev pub asked_for : List Step
asked_for =
    calls 3 SysXbegin
    ∷ calls 3 (Waitpid (pos 2) true)
    ∷ calls 2 Getpid
    ∷ calls 1 (Waitpid (pos 2) true)
    ∷ calls 1 (kill 2 0)
    ∷ calls 1 (sigqueue 2 34 1)
    ∷ calls 1 (kill 2 99)
    ∷ calls 3 SysXabort
    ∷ calls 1 (kill 2 0)
    ∷ []

abbrev pub AskedForAnswers : Type 0
AskedForAnswers =
    answers_of (boot_state 64 3) [] asked_for
    ≡ ok 0 ∷ error 10 ∷ busy_with 3 ∷ busy_with 3 ∷ busy_with 3 ∷ busy_with 3 ∷ error 22
    ∷ Aborted 201 ∷ ok 0 ∷ []

-- a member that is no starter can't be signalled by other processes, and its starter can
abbrev pub signalled_member : List Step
signalled_member =
    calls 2 SysXbegin
    ∷ calls 2 (fork 7)
    ∷ calls 3 (kill 7 10)
    ∷ calls 3 (kill 7 0)
    ∷ calls 3 (kill 2 10)
    ∷ calls 2 SysXabort
    ∷ calls 3 (kill 7 10)
    ∷ []

abbrev pub SignalledMemberAnswers : Type 0
SignalledMemberAnswers =
    answers_of (boot_state 64 3) [] signalled_member
    ≡ ok 0 ∷ ok 7 ∷ busy_with 2 ∷ busy_with 2 ∷ ok 0 ∷ Aborted 201 ∷ error 3 ∷ []

-- a commit names the targets of what it held, which were free to go on meanwhile
abbrev pub reserved_target : List Step
reserved_target =
    calls 2 SysXbegin
    ∷ calls 2 (kill 3 10)
    ∷ calls 3 Getpid
    ∷ calls 4 SysXbegin
    ∷ calls 4 (Waitpid (pos 3) true)
    ∷ calls 2 SysXend
    ∷ calls 4 SysXend
    ∷ calls 2 SysXend
    ∷ []

abbrev pub ReservedTargetAnswers : Type 0
ReservedTargetAnswers =
    answers_of (boot_state 64 4) [] reserved_target
    ≡ ok 0 ∷ ok 0 ∷ ok 3 ∷ ok 0 ∷ error 10 ∷ busy_with 4 ∷ committed ∷ committed ∷ []

-- the parent of a starter gets SIGCHLD at the commit, and is named only then: by the exit of the
-- starter where that commits, else by the step that does
abbrev pub told_at_commit : List Step
told_at_commit =
    calls 2 (fork 4)
    ∷ calls 4 SysXbegin
    ∷ calls 3 SysXbegin
    ∷ calls 3 (Waitpid (pos 2) true)
    ∷ calls 4 (Exit (pos 0))
    ∷ calls 4 (fork 5)
    ∷ calls 4 (Exit (pos 0))
    ∷ calls 5 SysXend
    ∷ calls 3 SysXend
    ∷ calls 5 SysXend
    ∷ []

abbrev pub ToldAtCommitAnswers : Type 0
ToldAtCommitAnswers =
    answers_of (boot_state 64 3) [] told_at_commit
    ≡ ok 4 ∷ ok 0 ∷ ok 0 ∷ error 10 ∷ busy_with 3 ∷ ok 5 ∷ Ended ∷ busy_with 3 ∷ committed
    ∷ committed ∷ []

-- a child has begun a transaction: a delivery that ends its parent is refused, and one that does
-- not is made; a blocked signal is not delivered anyway
abbrev pub fatal_delivery : List Step
fatal_delivery =
    calls 2 (fork 3)
    ∷ calls 1 (kill 2 10)
    ∷ calls 1 (kill 2 12)
    ∷ calls 1 (kill 2 17)
    ∷ calls 3 SysXbegin
    ∷ delivery 2 17
    ∷ delivery 2 10
    ∷ calls 2 (block 1024)
    ∷ delivery 2 10
    ∷ calls 3 SysXend
    ∷ delivery 2 12
    ∷ []

abbrev pub FatalDeliveryAnswers : Type 0
FatalDeliveryAnswers =
    answers_of (boot_state 64 2) [] fatal_delivery
    ≡ ok 3 ∷ ok 0 ∷ ok 0 ∷ ok 0 ∷ ok 0 ∷ ok 3 ∷ busy_with 3 ∷ ok 0 ∷ No NotDeliverable ∷ committed
    ∷ Ended ∷ []

-- a deferred delivery names nothing
abbrev pub deferred_delivery : List Step
deferred_delivery =
    calls 2 (fork 3)
    ∷ calls 3 SysXbegin
    ∷ calls 2 SysXbeginDefer
    ∷ calls 1 (kill 2 10)
    ∷ delivery 2 10
    ∷ calls 2 SysXabort
    ∷ delivery 2 10
    ∷ []

abbrev pub DeferredDeliveryAnswers : Type 0
DeferredDeliveryAnswers =
    answers_of (boot_state 256 2) [] deferred_delivery
    ≡ ok 3 ∷ ok 0 ∷ ok 0 ∷ ok 0 ∷ No Deferred ∷ Aborted 201 ∷ busy_with 3 ∷ []
