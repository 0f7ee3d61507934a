-- Schedules of descriptors, and of calls on wrong ones, worked out to the end. Own rules.
use Rattle.std.specs.Prelude.{◌≡◌, true, false, List, [], ◌∷◌, ◌++◌, pos, negsuc, Some, None, replicate}
use Rattle.tx_base.specs.declared.steps.Call.TheVariants.{Map, Protect, Exit, Dup, Dup2, Close, SetNonblock, Read, Write}
use Rattle.tx_base.specs.declared.steps.Refusal.TheVariants.{Wait}
use Rattle.tx_base.specs.declared.steps.Reply.TheVariants.{Ended, No}
use Rattle.tx_base.specs.declared.steps.Step.{Step}
use Rattle.tx_model.specs.Memory.{no_memory}
use Rattle.tx_model.specs.State.{ReadSide, WriteSide, State, boot_state}
use Rattle.tx_model.specs.Schedules.{answers_of}
use Rattle.tx_examples.specs.WorkedSteps.{calls, fork, pipe, ok, error, state_after, standing, with_slots, with_open, described}
use Rattle.tx_examples.specs.WorkedPipes.{eight_pages}

-- the lowest free descriptors are taken, also between open ones
abbrev pub lowest_first : List Step
lowest_first =
    calls 1 (pipe 0 0 1)
    ∷ calls 1 (Dup (pos 0))
    ∷ calls 1 (Dup (pos 1))
    ∷ calls 1 (Close (pos 0))
    ∷ calls 1 (Close (pos 2))
    ∷ calls 1 (pipe 1 2 3)
    ∷ []

abbrev pub LowestFirstAnswers : Type 0
LowestFirstAnswers =
    answers_of (boot_state 64 1) [] lowest_first ≡ ok 0 ∷ ok 2 ∷ ok 3 ∷ ok 0 ∷ ok 0 ∷ ok 0 ∷ []

-- the slots say which descriptors they are, the read side first
abbrev pub LowestFirstState : Type 0
LowestFirstState =
    let S : State = state_after (boot_state 64 1) lowest_first in
    (S.procs 1
    ≡ Some (with_slots (pos 0 ∷ pos 2 ∷ replicate 6 (pos 0))
    (with_open (Some 2 ∷ Some 1 ∷ Some 3 ∷ Some 1 ∷ replicate 12 None)
    (standing 1 6 (pos 0) no_memory))))
    × (S.descs 0 ≡ None)
    × (S.descs 1 ≡ described 0 WriteSide false)
    × (S.descs 2 ≡ described 1 ReadSide false)
    × (S.descs 3 ≡ described 1 WriteSide false)
    × (S.pipes 0 ≡ Some [])

-- at most sixteen descriptors are open; a pipe takes two or none
abbrev pub full_table : List Step
full_table =
    calls 1 (pipe 0 0 1)
    ∷ calls 1 (pipe 1 2 3)
    ∷ calls 1 (pipe 2 4 5)
    ∷ calls 1 (pipe 3 6 7)
    ∷ calls 1 (pipe 4 8 9)
    ∷ calls 1 (pipe 5 10 11)
    ∷ calls 1 (pipe 6 12 13)
    ∷ calls 1 (Dup (pos 0))
    ∷ calls 1 (pipe 7 14 15)
    ∷ calls 1 (Dup (pos 0))
    ∷ calls 1 (pipe 7 14 15)
    ∷ calls 1 (Dup (pos 0))
    ∷ calls 1 (Dup (pos 16))
    ∷ calls 1 (Dup2 (pos 1) (pos 15))
    ∷ calls 1 (Close (pos 3))
    ∷ calls 1 (Dup (pos 15))
    ∷ []

abbrev pub FullTableAnswers : Type 0
FullTableAnswers =
    answers_of (boot_state 64 1) [] full_table
    ≡ replicate 7 (ok 0)
    ++ ok 14
    ∷ error 24
    ∷ ok 15
    ∷ error 24
    ∷ error 24
    ∷ error 9
    ∷ ok 15
    ∷ ok 0
    ∷ ok 3
    ∷ []

abbrev pub FullTableState : Type 0
FullTableState =
    let S : State = state_after (boot_state 64 1) full_table in
    (S.descs 3 ≡ None) × (S.descs 14 ≡ None) × (S.pipes 1 ≡ Some []) × (S.pipes 7 ≡ None)

-- the end of a process closes its descriptors: what it wrote is read, and then no writer is left
abbrev pub closed_by_exit : List Step
closed_by_exit =
    calls 1 (Map (pos 0))
    ∷ calls 1 (pipe 0 0 1)
    ∷ calls 1 (fork 2)
    ∷ calls 1 (Close (pos 1))
    ∷ calls 2 (Write (pos 1) (pos 0) (pos 3))
    ∷ calls 2 (Exit (pos 0))
    ∷ calls 1 (Read (pos 0) (pos 0) (pos 2))
    ∷ calls 1 (Read (pos 0) (pos 0) (pos 2))
    ∷ calls 1 (Read (pos 0) (pos 0) (pos 2))
    ∷ []

abbrev pub ClosedByExitAnswers : Type 0
ClosedByExitAnswers =
    answers_of (boot_state 64 1) [] closed_by_exit
    ≡ ok 0 ∷ ok 0 ∷ ok 2 ∷ ok 0 ∷ ok 3 ∷ Ended ∷ ok 2 ∷ ok 1 ∷ ok 0 ∷ []

abbrev pub ClosedByExitState : Type 0
ClosedByExitState =
    let S : State = state_after (boot_state 64 1) closed_by_exit in
    (S.descs 0 ≡ described 0 ReadSide false) × (S.descs 1 ≡ None) × (S.pipes 0 ≡ Some [])

-- the last side of a pipe takes the bytes with it, and its numbers may be chosen again
abbrev pub bytes_lost : List Step
bytes_lost =
    calls 2 (Map (pos 0))
    ∷ calls 2 (pipe 0 0 1)
    ∷ calls 2 (fork 3)
    ∷ calls 2 (Write (pos 1) (pos 0) (pos 3))
    ∷ calls 2 (Close (pos 0))
    ∷ calls 2 (Close (pos 1))
    ∷ calls 3 (Exit (pos 0))
    ∷ calls 2 (pipe 0 0 1)
    ∷ calls 2 (Read (pos 0) (pos 0) (pos 3))
    ∷ []

abbrev pub BytesLostAnswers : Type 0
BytesLostAnswers =
    answers_of (boot_state 64 2) [] bytes_lost
    ≡ ok 0 ∷ ok 0 ∷ ok 3 ∷ ok 3 ∷ ok 0 ∷ ok 0 ∷ Ended ∷ ok 0 ∷ No Wait ∷ []

-- a read wants an open read side, a good count, a good range that may be written, and bytes; a
-- write wants a write side and a range that may be read. Each is tested in this order, and no byte
-- wants no range
abbrev pub wrong_transfers : List Step
wrong_transfers =
    calls 1 (Map (pos 0))
    ∷ calls 1 (pipe 0 0 1)
    ∷ calls 1 (Read (pos 1) (pos 0) (pos 0))
    ∷ calls 1 (Read (pos 5) (pos 0) (pos 513))
    ∷ calls 1 (Read (pos 0) (pos 64) (pos 513))
    ∷ calls 1 (Read (pos 0) (pos 0) (negsuc 0))
    ∷ calls 1 (Read (pos 0) (pos 64) (pos 0))
    ∷ calls 1 (Read (pos 0) (pos 64) (pos 1))
    ∷ calls 1 (Read (pos 0) (pos 0) (pos 1))
    ∷ calls 1 (SetNonblock (pos 0) true)
    ∷ calls 1 (Read (pos 0) (pos 0) (pos 1))
    ∷ calls 1 (SetNonblock (pos 0) false)
    ∷ calls 1 (Read (pos 0) (pos 0) (pos 1))
    ∷ calls 1 (Protect (pos 0) false)
    ∷ calls 1 (Read (pos 0) (pos 0) (pos 1))
    ∷ calls 1 (Write (pos 0) (pos 0) (pos 0))
    ∷ calls 1 (Write (pos 5) (pos 0) (pos 513))
    ∷ calls 1 (Write (pos 1) (pos 64) (negsuc 0))
    ∷ calls 1 (Write (pos 1) (pos 63) (pos 2))
    ∷ calls 1 (Write (pos 1) (pos 62) (pos 2))
    ∷ []

abbrev pub WrongTransfersAnswers : Type 0
WrongTransfersAnswers =
    answers_of (boot_state 64 1) [] wrong_transfers
    ≡ ok 0
    ∷ ok 0
    ∷ error 9
    ∷ error 9
    ∷ error 22
    ∷ error 22
    ∷ ok 0
    ∷ error 14
    ∷ No Wait
    ∷ ok 0
    ∷ error 11
    ∷ ok 0
    ∷ No Wait
    ∷ ok 0
    ∷ error 14
    ∷ error 9
    ∷ error 9
    ∷ error 22
    ∷ error 14
    ∷ ok 2
    ∷ []

-- a write is made whole or not at all
abbrev pub little_room : List Step
little_room =
    eight_pages
    ++ calls 1 (pipe 0 0 1)
    ∷ calls 1 (Write (pos 1) (pos 0) (pos 500))
    ∷ calls 1 (Write (pos 1) (pos 0) (pos 13))
    ∷ calls 1 (Write (pos 1) (pos 0) (pos 12))
    ∷ calls 1 (Read (pos 0) (pos 0) (pos 512))
    ∷ []

abbrev pub LittleRoomAnswers : Type 0
LittleRoomAnswers =
    answers_of (boot_state 64 1) [] little_room
    ≡ replicate 9 (ok 0) ++ ok 500 ∷ No Wait ∷ ok 12 ∷ ok 512 ∷ []

-- descriptors are 0 to 15, and open
abbrev pub wrong_descriptors : List Step
wrong_descriptors =
    calls 1 (Close (pos 0))
    ∷ calls 1 (Close (pos 16))
    ∷ calls 1 (Close (negsuc 0))
    ∷ calls 1 (Dup (pos 0))
    ∷ calls 1 (Dup2 (pos 0) (pos 0))
    ∷ calls 1 (SetNonblock (pos 0) true)
    ∷ calls 1 (SetNonblock (pos 16) true)
    ∷ calls 1 (pipe 0 0 1)
    ∷ calls 1 (Dup2 (pos 0) (negsuc 0))
    ∷ calls 1 (Dup2 (pos 16) (pos 0))
    ∷ calls 1 (Dup2 (pos 1) (pos 15))
    ∷ calls 1 (Dup2 (pos 1) (pos 16))
    ∷ []

abbrev pub WrongDescriptorsAnswers : Type 0
WrongDescriptorsAnswers =
    answers_of (boot_state 64 1) [] wrong_descriptors
    ≡ replicate 7 (error 9) ++ ok 0 ∷ error 9 ∷ error 9 ∷ ok 15 ∷ error 9 ∷ []
