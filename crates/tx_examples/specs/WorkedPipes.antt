-- Schedules of pipes that are worked out to the end. Own rules.
use Rattle.std.specs.Prelude.{◌≡◌, true, false, List, [], ◌∷◌, ◌++◌, ℤ, pos, negsuc, Some, None, replicate}
use Rattle.tx_base.specs.declared.steps.Call.TheVariants.{Map, Load, Dup, Dup2, Close, SetNonblock, Read, Write, Sigpending, SysXbegin, SysXend, SysXabort}
use Rattle.tx_base.specs.declared.steps.Refusal.TheVariants.{Wait}
use Rattle.tx_base.specs.declared.steps.Reply.TheVariants.{Aborted, No}
use Rattle.tx_base.specs.declared.steps.Step.{Step}
use Rattle.tx_model.specs.Memory.{Memory, zero_page, no_memory}
use Rattle.tx_model.specs.State.{ReadSide, WriteSide, State, boot_state}
use Rattle.tx_model.specs.Schedules.{answers_of}
use Rattle.tx_examples.specs.WorkedSteps.{calls, store, fork, pipe, block, ok, error, committed, busy_with, state_after, standing, with_slots, with_open, with_mask, with_one_pending, described}

-- the last writer of a pipe closes it inside: whether a read of process 1 waits or is at the end is
-- not known yet
abbrev pub last_writer : List Step
last_writer =
    calls 1 (Map (pos 0))
    ∷ calls 1 (pipe 0 0 1)
    ∷ calls 1 (fork 2)
    ∷ calls 1 (Close (pos 1))
    ∷ calls 2 SysXbegin
    ∷ calls 2 (Close (pos 1))
    ∷ calls 1 (Read (pos 0) (pos 0) (pos 4))
    ∷ []

-- after the abort the write side is there, and the read waits
abbrev pub writer_back : List Step
writer_back = last_writer ++ calls 2 SysXabort ∷ calls 1 (Read (pos 0) (pos 0) (pos 4)) ∷ []

abbrev pub WriterBackAnswers : Type 0
WriterBackAnswers =
    answers_of (boot_state 64 1) [] writer_back
    ≡ ok 0 ∷ ok 0 ∷ ok 2 ∷ ok 0 ∷ ok 0 ∷ ok 0 ∷ busy_with 2 ∷ Aborted 201 ∷ No Wait ∷ []

-- after the commit it is gone, and the read is at the end
abbrev pub writer_gone : List Step
writer_gone = last_writer ++ calls 2 SysXend ∷ calls 1 (Read (pos 0) (pos 0) (pos 4)) ∷ []

abbrev pub WriterGoneAnswers : Type 0
WriterGoneAnswers =
    answers_of (boot_state 64 1) [] writer_gone
    ≡ ok 0 ∷ ok 0 ∷ ok 2 ∷ ok 0 ∷ ok 0 ∷ ok 0 ∷ busy_with 2 ∷ committed ∷ ok 0 ∷ []

-- after the abort it is closed again, outside
abbrev pub writer_closes : List Step
writer_closes = writer_back ++ calls 2 (Close (pos 1)) ∷ calls 1 (Read (pos 0) (pos 0) (pos 4)) ∷ []

abbrev pub WriterClosesAnswers : Type 0
WriterClosesAnswers =
    answers_of (boot_state 64 1) [] writer_closes
    ≡ ok 0 ∷ ok 0 ∷ ok 2 ∷ ok 0 ∷ ok 0 ∷ ok 0 ∷ busy_with 2 ∷ Aborted 201 ∷ No Wait ∷ ok 0 ∷ ok 0
    ∷ []

-- a child that was forked inside changes the flag of a description that process 1 has too
abbrev pub flag_undone : List Step
flag_undone =
    calls 1 (pipe 3 5 6)
    ∷ calls 1 (fork 2)
    ∷ calls 2 SysXbegin
    ∷ calls 2 (fork 7)
    ∷ calls 7 (SetNonblock (pos 0) true)
    ∷ calls 1 (Close (pos 0))
    ∷ calls 2 SysXabort
    ∷ calls 1 (Close (pos 0))
    ∷ []

abbrev pub FlagUndoneAnswers : Type 0
FlagUndoneAnswers =
    answers_of (boot_state 64 1) [] flag_undone
    ≡ ok 0 ∷ ok 2 ∷ ok 0 ∷ ok 7 ∷ ok 0 ∷ busy_with 2 ∷ Aborted 201 ∷ ok 0 ∷ []

-- the slots that say which descriptors the pipe has
abbrev pub zero_and_one : List ℤ
zero_and_one = pos 0 ∷ pos 1 ∷ replicate 6 (pos 0)

abbrev pub FlagUndoneState : Type 0
FlagUndoneState =
    let S : State = state_after (boot_state 64 1) flag_undone in
    (S.procs 1
    ≡ Some
    (with_slots zero_and_one
    (with_open (None ∷ Some 6 ∷ replicate 14 None) (standing 1 3 (pos 0) no_memory))))
    × (S.procs 2
    ≡ Some
    (with_slots zero_and_one
    (with_open (Some 5 ∷ Some 6 ∷ replicate 14 None)
    (standing 2 3 (negsuc 200) no_memory))))
    × (S.procs 7 ≡ None)
    × (S.descs 5 ≡ described 3 ReadSide false)
    × (S.descs 6 ≡ described 3 WriteSide false)
    × (S.pipes 3 ≡ Some [])

-- process 1 maps its first eight pages: 512 bytes
abbrev pub eight_pages : List Step
eight_pages =
    calls 1 (Map (pos 0))
    ∷ calls 1 (Map (pos 1))
    ∷ calls 1 (Map (pos 2))
    ∷ calls 1 (Map (pos 3))
    ∷ calls 1 (Map (pos 4))
    ∷ calls 1 (Map (pos 5))
    ∷ calls 1 (Map (pos 6))
    ∷ calls 1 (Map (pos 7))
    ∷ []

-- a pipe takes 512 bytes, and no call moves more; a call that can't go on waits, or is refused
-- where its own side does not block
abbrev pub full_pipe : List Step
full_pipe =
    eight_pages
    ++ calls 1 (pipe 0 0 1)
    ∷ calls 1 (Write (pos 1) (pos 0) (pos 512))
    ∷ calls 1 (Write (pos 1) (pos 0) (pos 1))
    ∷ calls 1 (SetNonblock (pos 1) true)
    ∷ calls 1 (Write (pos 1) (pos 0) (pos 1))
    ∷ calls 1 (Write (pos 1) (pos 0) (pos 513))
    ∷ calls 1 (Read (pos 0) (pos 0) (pos 513))
    ∷ calls 1 (Read (pos 0) (pos 0) (pos 0))
    ∷ calls 1 (Read (pos 0) (pos 0) (pos 512))
    ∷ calls 1 (Read (pos 0) (pos 0) (pos 1))
    ∷ calls 1 (Write (pos 1) (pos 0) (pos 1))
    ∷ []

abbrev pub FullPipeAnswers : Type 0
FullPipeAnswers =
    answers_of (boot_state 64 1) [] full_pipe
    ≡ replicate 8 (ok 0)
    ++ ok 0
    ∷ ok 512
    ∷ No Wait
    ∷ ok 0
    ∷ error 11
    ∷ error 22
    ∷ error 22
    ∷ ok 0
    ∷ ok 512
    ∷ No Wait
    ∷ ok 1
    ∷ []

-- bytes leave a pipe in the order in which they came
abbrev pub bytes_in_turn : List Step
bytes_in_turn =
    calls 1 (Map (pos 0))
    ∷ calls 1 (store (pos 0) (1 ∷ 2 ∷ 3 ∷ 4 ∷ 5 ∷ []))
    ∷ calls 1 (pipe 0 0 1)
    ∷ calls 1 (Write (pos 1) (pos 0) (pos 3))
    ∷ calls 1 (Write (pos 1) (pos 3) (pos 2))
    ∷ calls 1 (Read (pos 0) (pos 10) (pos 4))
    ∷ calls 1 (Load (pos 10))
    ∷ calls 1 (Load (pos 13))
    ∷ calls 1 (Read (pos 0) (pos 10) (pos 4))
    ∷ calls 1 (Load (pos 10))
    ∷ []

abbrev pub BytesInTurnAnswers : Type 0
BytesInTurnAnswers =
    answers_of (boot_state 64 1) [] bytes_in_turn
    ≡ ok 0 ∷ ok 0 ∷ ok 0 ∷ ok 3 ∷ ok 2 ∷ ok 4 ∷ ok 1 ∷ ok 4 ∷ ok 1 ∷ ok 5 ∷ []

-- a write without a reader: a bad address comes first, no byte is no error, and SIGPIPE is pending
abbrev pub no_reader : List Step
no_reader =
    calls 2 (Map (pos 0))
    ∷ calls 2 (pipe 0 0 1)
    ∷ calls 2 (block 8192)
    ∷ calls 2 (Close (pos 0))
    ∷ calls 2 (Write (pos 1) (pos 64) (pos 1))
    ∷ calls 2 (Write (pos 1) (pos 0) (pos 0))
    ∷ calls 2 (Write (pos 1) (pos 0) (pos 1))
    ∷ calls 2 Sigpending
    ∷ []

abbrev pub NoReaderAnswers : Type 0
NoReaderAnswers =
    answers_of (boot_state 64 2) [] no_reader
    ≡ ok 0 ∷ ok 0 ∷ ok 0 ∷ ok 0 ∷ error 14 ∷ ok 0 ∷ error 32 ∷ ok 8192 ∷ []

-- one page of zeros
abbrev pub one_page : Memory
one_page = Some zero_page ∷ replicate 15 None

abbrev pub NoReaderState : Type 0
NoReaderState =
    let S : State = state_after (boot_state 64 2) no_reader in
    (S.procs 2
    ≡ Some (with_one_pending 13 (with_mask 8192 (with_slots zero_and_one
    (with_open (None ∷ Some 1 ∷ replicate 14 None) (standing 2 8 (pos 8192) one_page))))))
    × (S.descs 0 ≡ None)
    × (S.descs 1 ≡ described 0 WriteSide false)
    × (S.pipes 0 ≡ Some [])

-- a description has several names, of which the last one counts
abbrev pub more_names : List Step
more_names =
    calls 1 (pipe 0 0 1)
    ∷ calls 1 (Dup (pos 1))
    ∷ calls 1 (Dup2 (pos 1) (pos 1))
    ∷ calls 1 (Dup2 (pos 1) (pos 5))
    ∷ calls 1 (Close (pos 1))
    ∷ calls 1 (Close (pos 1))
    ∷ calls 1 (Close (pos 2))
    ∷ calls 1 (Dup2 (pos 0) (pos 16))
    ∷ calls 1 (Dup2 (pos 1) (pos 3))
    ∷ calls 1 (SetNonblock (pos 5) true)
    ∷ calls 1 (Dup2 (pos 0) (pos 5))
    ∷ []

abbrev pub MoreNamesAnswers : Type 0
MoreNamesAnswers =
    answers_of (boot_state 64 1) [] more_names
    ≡ ok 0 ∷ ok 2 ∷ ok 1 ∷ ok 5 ∷ ok 0 ∷ error 9 ∷ ok 0 ∷ error 9 ∷ error 9 ∷ ok 0 ∷ ok 5 ∷ []

abbrev pub MoreNamesState : Type 0
MoreNamesState =
    let S : State = state_after (boot_state 64 1) more_names in
    (S.procs 1
    ≡ Some (with_slots zero_and_one
    (with_open (Some 0 ∷ None ∷ None ∷ None ∷ None ∷ Some 0 ∷ replicate 10 None)
    (standing 1 11 (pos 5) no_memory))))
    × (S.descs 0 ≡ described 0 ReadSide false)
    × (S.descs 1 ≡ None)
    × (S.pipes 0 ≡ Some [])
