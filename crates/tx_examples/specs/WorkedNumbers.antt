-- Schedules of numbers that calls choose, worked out to the end. Own rules.
use Rattle.std.specs.Prelude.{◌≡◌, ℕ, zero, suc, ◌+◌, false, List, [], ◌∷◌, ◌++◌, pos, negsuc, Some, None, replicate}
use Rattle.tx_base.specs.declared.steps.Call.TheVariants.{Exit, Waitpid, Getpid, Close, SysXbegin, SysXend, SysXabort}
use Rattle.tx_base.specs.declared.steps.Refusal.TheVariants.{NoProcess, BadNumber, NumberTaken, NoTransaction}
use Rattle.tx_base.specs.declared.steps.Reply.TheVariants.{Ended, Aborted, No}
use Rattle.tx_base.specs.declared.steps.Step.{Step}
use Rattle.tx_model.specs.Memory.{no_memory}
use Rattle.tx_model.specs.State.{ReadSide, WriteSide, State, booted_process, boot_state}
use Rattle.tx_model.specs.View.{View}
use Rattle.tx_model.specs.Schedules.{answers_of}
use Rattle.tx_model.specs.FreeNumbers.{Free, free_numbers}
use Rattle.tx_examples.specs.WorkedSteps.{calls, kernel, fork, pipe, ok, error, busy_with, view_after, state_after, standing, with_slots, with_open, described}

-- numbers that are refused, and one that is no error of a number: refused steps leave the process
-- where it is
abbrev pub refused_numbers : List Step
refused_numbers =
    calls 1 (fork 65)
    ∷ calls 1 (fork 1)
    ∷ calls 9 Getpid
    ∷ kernel 1
    ∷ calls 1 SysXend
    ∷ calls 1 (pipe 0 4 4)
    ∷ []

abbrev pub RefusedNumbersAnswers : Type 0
RefusedNumbersAnswers =
    answers_of (boot_state 64 1) [] refused_numbers
    ≡ No BadNumber ∷ No NumberTaken ∷ No NoProcess ∷ No NoTransaction ∷ error 22 ∷ No BadNumber ∷ []

abbrev pub RefusedNumbersState : Type 0
RefusedNumbersState =
    (state_after (boot_state 64 1) refused_numbers).procs 1
    ≡ Some (standing 1 1 (negsuc 21) no_memory)

-- processes are numbered from 1, pipes 0 to 31, descriptions 0 to 63. A number out of range comes
-- before one that is taken
abbrev pub number_limits : List Step
number_limits =
    calls 1 (fork 0)
    ∷ calls 1 (fork 64)
    ∷ calls 1 (pipe 32 0 1)
    ∷ calls 1 (pipe 0 64 1)
    ∷ calls 1 (pipe 0 0 64)
    ∷ calls 1 (pipe 31 63 62)
    ∷ calls 1 (pipe 31 0 1)
    ∷ calls 1 (pipe 0 63 1)
    ∷ calls 1 (pipe 0 0 62)
    ∷ calls 1 (pipe 0 0 63)
    ∷ calls 1 (pipe 31 64 1)
    ∷ calls 1 (pipe 31 63 63)
    ∷ []

abbrev pub NumberLimitsAnswers : Type 0
NumberLimitsAnswers =
    answers_of (boot_state 64 1) [] number_limits
    ≡ No BadNumber
    ∷ ok 64
    ∷ No BadNumber
    ∷ No BadNumber
    ∷ No BadNumber
    ∷ ok 0
    ∷ No NumberTaken
    ∷ No NumberTaken
    ∷ No NumberTaken
    ∷ No NumberTaken
    ∷ No BadNumber
    ∷ No BadNumber
    ∷ []

-- a member makes a pipe, whose numbers another process wants, and closes both ends
abbrev pub closed_inside : List Step
closed_inside =
    calls 2 SysXbegin ∷ calls 2 (pipe 4 8 9) ∷ calls 3 (pipe 4 1 2) ∷ calls 2 (Close (pos 0))
    ∷ calls 2 (Close (pos 1)) ∷ []

-- its numbers are in use, then free but reserved, and then free
abbrev pub reserved_numbers : List Step
reserved_numbers =
    closed_inside ++ calls 3 (pipe 4 1 2) ∷ calls 2 SysXabort ∷ calls 3 (pipe 4 1 2) ∷ []

abbrev pub ReservedNumbersAnswers : Type 0
ReservedNumbersAnswers =
    answers_of (boot_state 64 3) [] reserved_numbers
    ≡ ok 0 ∷ ok 0 ∷ No NumberTaken ∷ ok 0 ∷ ok 0 ∷ busy_with 2 ∷ Aborted 201 ∷ ok 0 ∷ []

abbrev pub ReservedNumbersState : Type 0
ReservedNumbersState =
    let S : State = state_after (boot_state 64 3) reserved_numbers in
    (S.procs 1 ≡ Some (booted_process 1))
    × (S.procs 2 ≡ Some (standing 2 1 (negsuc 200) no_memory))
    × (S.procs 3
    ≡ Some
    (with_slots (pos 0 ∷ pos 1 ∷ replicate 6 (pos 0))
    (with_open (Some 1 ∷ Some 2 ∷ replicate 14 None) (standing 3 1 (pos 0) no_memory))))
    × (S.descs 1 ≡ described 4 ReadSide false)
    × (S.descs 2 ≡ described 4 WriteSide false)
    × (S.descs 8 ≡ None)
    × (S.descs 9 ≡ None)
    × (S.pipes 4 ≡ Some [])

-- the least numbers that are free
abbrev pub free : ℕ → ℕ → ℕ → ℕ → Free
free p k r w = record { proc = Some p; pipe = Some k; descs = Some (r, w) }

-- before the abort, the least numbers that are free for process 3
abbrev pub LeastFree : Type 0
LeastFree = free_numbers (view_after (boot_state 64 3) closed_inside) 3 ≡ free 4 0 0 1

-- numbers that a transaction gave up are free only for its members, until it ends
abbrev pub given_up_inside : List Step
given_up_inside =
    calls 2 SysXbegin
    ∷ calls 2 (pipe 0 0 1)
    ∷ calls 2 (Close (pos 0))
    ∷ calls 2 (Close (pos 1))
    ∷ calls 2 (fork 4)
    ∷ calls 4 (Exit (pos 0))
    ∷ calls 2 (Waitpid (pos 4) false)
    ∷ calls 3 (pipe 1 3 4)
    ∷ []

abbrev pub GivenUpInsideAnswers : Type 0
GivenUpInsideAnswers =
    answers_of (boot_state 64 3) [] given_up_inside
    ≡ ok 0 ∷ ok 0 ∷ ok 0 ∷ ok 0 ∷ ok 4 ∷ Ended ∷ ok 4 ∷ ok 0 ∷ []

abbrev pub FreeInside : Type 0
FreeInside =
    let V : View = view_after (boot_state 64 3) given_up_inside in
    (free_numbers V 1 ≡ free 5 2 2 5)
    × (free_numbers V 2 ≡ free 4 0 0 1)
    × (free_numbers V 3 ≡ free 5 2 2 5)

-- where every process is there, no number of one is free
abbrev pub NoneFree : Type 0
NoneFree =
    free_numbers (view_after (boot_state 64 64) []) 1
    ≡ record { proc = None; pipe = Some 0; descs = Some (0, 1) }

-- process p makes as many pipes, from this number on
abbrev pub pipes_from : ℕ → ℕ → ℕ → List Step
pipes_from p k zero = []
pipes_from p k (suc n) = calls p (pipe k (k + k) (k + k + 1)) ∷ pipes_from p (k + 1) n

-- every pipe and every description is there: eight pipes at each of four processes
abbrev pub all_pipes : List Step
all_pipes = pipes_from 1 0 8 ++ pipes_from 2 8 8 ++ pipes_from 3 16 8 ++ pipes_from 4 24 8

-- then one description is given up, of two that a pipe takes
abbrev pub all_pipes_but_one_side : List Step
all_pipes_but_one_side = all_pipes ++ calls 1 (Close (pos 0)) ∷ []

abbrev pub NoPipeFree : Type 0
NoPipeFree =
    free_numbers (view_after (boot_state 64 4) all_pipes) 1
    ≡ record { proc = Some 5; pipe = None; descs = None }

abbrev pub OneSideFree : Type 0
OneSideFree =
    free_numbers (view_after (boot_state 64 4) all_pipes_but_one_side) 1
    ≡ record { proc = Some 5; pipe = None; descs = None }
