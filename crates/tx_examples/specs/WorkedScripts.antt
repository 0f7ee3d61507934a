-- Schedules of calls that concern only their own process, worked out to the end: jumps, kept
-- answers, numbers, and the console. Own rules.
use Rattle.std.specs.Prelude.{◌≡◌, ℕ, false, List, [], ◌∷◌, ◌++◌, pos, negsuc, Some, replicate}
use Rattle.tx_base.specs.declared.steps.Call.TheVariants.{Map, Protect, Exit, Getpid, Getppid, ConsoleWrite, Jump, Keep}
use Rattle.tx_base.specs.declared.steps.Reply.{Reply}
use Rattle.tx_base.specs.declared.steps.Reply.TheVariants.{Ended, Out}
use Rattle.tx_base.specs.declared.steps.Step.{Step}
use Rattle.tx_base.specs.declared.steps.When.TheVariants.{Always, IfRet}
use Rattle.tx_model.specs.Memory.{no_memory}
use Rattle.tx_model.specs.State.{boot_state}
use Rattle.tx_model.specs.Schedules.{answers_of}
use Rattle.tx_examples.specs.WorkedSteps.{calls, store, fork, ok, error, state_after, standing, with_slots}

-- a jump is made always, or only where the last answer is a given number; the last answer stays.
-- Points are 0 to 65,535
abbrev pub jumps : List Step
jumps =
    calls 1 (Jump 7 Always)
    ∷ calls 1 Getpid
    ∷ calls 1 (Jump 40 (IfRet (pos 1)))
    ∷ calls 1 (Jump 3 (IfRet (pos 2)))
    ∷ calls 1 (Jump 65536 Always)
    ∷ []

abbrev pub JumpsAnswers : Type 0
JumpsAnswers = answers_of (boot_state 64 1) [] jumps ≡ ok 0 ∷ ok 1 ∷ ok 1 ∷ ok 1 ∷ error 22 ∷ []

abbrev pub JumpsState : Type 0
JumpsState =
    (state_after (boot_state 64 1) jumps).procs 1 ≡ Some (standing 1 42 (negsuc 21) no_memory)

-- the last answer may be an error, and adding one at the last point leaves it
abbrev pub last_point : List Step
last_point =
    calls 1 (Keep (pos 8)) ∷ calls 1 (Jump 65535 (IfRet (negsuc 21))) ∷ calls 1 Getpid
    ∷ calls 1 Getpid ∷ []

abbrev pub LastPointAnswers : Type 0
LastPointAnswers =
    answers_of (boot_state 64 1) [] last_point ≡ error 22 ∷ error 22 ∷ ok 1 ∷ ok 1 ∷ []

abbrev pub LastPointState : Type 0
LastPointState =
    (state_after (boot_state 64 1) last_point).procs 1 ≡ Some (standing 1 65535 (pos 1) no_memory)

-- a slot keeps the last answer, which stays. Slots are 0 to 7
abbrev pub keeps : List Step
keeps =
    calls 2 Getpid
    ∷ calls 2 (Keep (pos 7))
    ∷ calls 2 (Keep (pos 8))
    ∷ calls 2 (Keep (pos 0))
    ∷ calls 2 (Keep (negsuc 0))
    ∷ calls 2 Getppid
    ∷ calls 2 (Keep (pos 3))
    ∷ []

abbrev pub KeepsAnswers : Type 0
KeepsAnswers =
    answers_of (boot_state 64 2) [] keeps
    ≡ ok 2 ∷ ok 2 ∷ error 22 ∷ error 22 ∷ error 22 ∷ ok 1 ∷ ok 1 ∷ []

abbrev pub KeepsState : Type 0
KeepsState =
    (state_after (boot_state 64 2) keeps).procs 2
    ≡ Some
    (with_slots (negsuc 21 ∷ pos 0 ∷ pos 0 ∷ pos 1 ∷ pos 0 ∷ pos 0 ∷ pos 0 ∷ pos 2 ∷ [])
    (standing 2 7 (pos 1) no_memory))

-- a process has its own number and that of its parent, which is 1 once the parent has ended;
-- process 1 has none
abbrev pub parents : List Step
parents =
    calls 1 Getppid
    ∷ calls 2 Getppid
    ∷ calls 2 (fork 3)
    ∷ calls 3 Getppid
    ∷ calls 3 Getpid
    ∷ calls 3 (fork 4)
    ∷ calls 4 Getppid
    ∷ calls 2 (Exit (pos 0))
    ∷ calls 3 Getppid
    ∷ calls 4 Getppid
    ∷ []

abbrev pub ParentsAnswers : Type 0
ParentsAnswers =
    answers_of (boot_state 64 2) [] parents
    ≡ ok 0 ∷ ok 1 ∷ ok 3 ∷ ok 2 ∷ ok 3 ∷ ok 4 ∷ ok 3 ∷ Ended ∷ ok 1 ∷ ok 3 ∷ []

-- the console showed these bytes
abbrev pub shown : List ℕ → Reply
shown bytes = Out (record { items = bytes })

-- up to 64 bytes of memory are shown, also of a page that may not be written; no byte is no error
-- at any address, and a wrong count comes before a wrong address
abbrev pub console : List Step
console =
    calls 1 (Map (pos 0))
    ∷ calls 1 (store (pos 62) (104 ∷ 105 ∷ []))
    ∷ calls 1 (Protect (pos 0) false)
    ∷ calls 1 (ConsoleWrite (pos 62) (pos 2))
    ∷ calls 1 (ConsoleWrite (pos 62) (pos 3))
    ∷ calls 1 (ConsoleWrite (negsuc 0) (pos 0))
    ∷ calls 1 (ConsoleWrite (negsuc 0) (pos 1))
    ∷ calls 1 (ConsoleWrite (negsuc 0) (pos 65))
    ∷ calls 1 (ConsoleWrite (pos 0) (negsuc 0))
    ∷ calls 1 (ConsoleWrite (pos 0) (pos 64))
    ∷ []

abbrev pub ConsoleAnswers : Type 0
ConsoleAnswers =
    answers_of (boot_state 64 1) [] console
    ≡ ok 0
    ∷ ok 0
    ∷ ok 0
    ∷ shown (104 ∷ 105 ∷ [])
    ∷ error 14
    ∷ shown []
    ∷ error 14
    ∷ error 22
    ∷ error 22
    ∷ shown (replicate 62 0 ++ 104 ∷ 105 ∷ [])
    ∷ []

-- the count is the answer that the process is left with
abbrev pub shown_count : List Step
shown_count =
    calls 1 (ConsoleWrite (pos 0) (pos 0)) ∷ calls 1 Getpid ∷ calls 1 (ConsoleWrite (pos 0) (pos 0))
    ∷ []

abbrev pub ShownCountState : Type 0
ShownCountState =
    (state_after (boot_state 64 1) shown_count).procs 1 ≡ Some (standing 1 3 (pos 0) no_memory)
