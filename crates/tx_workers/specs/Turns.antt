-- What a turn adds to the journal, and whose turn is next. Own rules.
use Rattle.std.specs.Prelude.{ℕ, ◌+◌, ◌-◌, ◌%◌, ◌==◌, Bool, true, false, ◌&&◌, List, [], ◌∷◌, map, Option, Some, None}
use Rattle.std.specs.List.{find, range_with_len}
use Rattle.tx_base.specs.declared.marks.Mark.{Mark}
use Rattle.tx_base.specs.declared.steps.Refusal.TheVariants.{Doomed}
use Rattle.tx_base.specs.declared.steps.Reply.{Reply}
use Rattle.tx_base.specs.declared.steps.Reply.TheVariants.{No}
use Rattle.tx_base.specs.declared.steps.Step.{Step}
use Rattle.tx_base.specs.declared.steps.Step.TheVariants.{KernelAbort}
use Rattle.tx_journal.specs.declared.entry.Entry.{Entry}
use Rattle.tx_model.specs.Answer.{answer, is_running}
use Rattle.tx_model.specs.View.{View, present}
use Rattle.tx_lines.specs.declared.instructions.Instruction.{Instruction}
use Rattle.tx_workers.specs.Named.{named}
use Rattle.tx_workers.specs.declared.turns.Took.{Took}
use Rattle.tx_workers.specs.declared.turns.Took.TheVariants.{Idle, Ran}

-- the entry of a step by a worker, where its reply is no refusal
abbrev pub entry_of : ℕ → Step → Reply → List Entry
entry_of worker step (No why) = []
entry_of worker step reply = record { step = step; worker = worker; reply = reply } ∷ []

-- the kernel's abort of the transaction of which a process with that mark is a member
abbrev pub abort_of : View → ℕ → Option Mark → List Entry
abort_of V worker None = []
abort_of V worker (Some mark) =
    entry_of worker (KernelAbort mark.starter) (answer V (KernelAbort mark.starter))

-- what a step of process p adds, by its answer: where the transaction is doomed it is aborted
-- instead
abbrev pub adds_by : View → ℕ → ℕ → Step → Reply → List Entry
adds_by V worker p step (No Doomed) = abort_of V worker (V.table.marks p)
adds_by V worker p step reply = entry_of worker step reply

abbrev pub adds_for : View → ℕ → ℕ → Option Step → List Entry
adds_for V worker p None = []
adds_for V worker p (Some step) = adds_by V worker p step (answer V step)

-- what the turn of process p adds, made by a worker
abbrev pub turn_adds : List Instruction → View → ℕ → ℕ → List Entry
turn_adds instructions V worker p = adds_for V worker p (named instructions V p)

-- whether a process is one of a worker's: the workers of that total take the numbers in turn
abbrev pub belongs_to : ℕ → ℕ → ℕ → Bool
belongs_to worker total p = (p - 1) % total + 1 == worker

abbrev pub is_next_of : View → ℕ → ℕ → ℕ → Bool
is_next_of V worker total p = belongs_to worker total p && is_running ((present V).procs p)

-- the number so many places after another one, of numbers from 1 that go round
abbrev pub places_after : ℕ → ℕ → ℕ → ℕ
places_after width last places = (last + places) % width + 1

-- all numbers, in the order in which they come after that one
abbrev pub all_after : ℕ → ℕ → List ℕ
all_after width last = map (places_after width last) (range_with_len 0 width)

-- the worker's next running process after another one
abbrev pub next_process : View → ℕ → ℕ → ℕ → Option ℕ
next_process V worker total last = find (is_next_of V worker total) (all_after V.table.width last)

-- what a worker's turn adds, by whose turn it is
abbrev pub adds_by_next : List Instruction → View → ℕ → Option ℕ → List Entry
adds_by_next instructions V worker None = []
adds_by_next instructions V worker (Some p) = turn_adds instructions V worker p

-- whose turn was last, after a turn
abbrev pub last_after : ℕ → Option ℕ → ℕ
last_after last None = last
last_after last (Some p) = p

-- whether a process took its turn, by whether it runs
abbrev pub took_by : Bool → Took
took_by true = Ran
took_by false = Idle
