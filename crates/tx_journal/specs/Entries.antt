-- The history that entries of a journal are.
use Rattle.std.specs.Prelude.{ℕ, zero, suc, List, Option, None, map, reverse, slice_get}
use Rattle.tx_base.specs.declared.steps.Accepted.{Accepted}
use Rattle.tx_journal.specs.declared.entry.Entry.{Entry}

-- the step with its reply, without the worker that made it
abbrev pub accepted_of : Entry → Accepted
accepted_of e = record { step = e.step; reply = e.reply }

-- the entry of a step that a worker made
abbrev pub entry_by : ℕ → Accepted → Entry
entry_by worker made = record { step = made.step; worker = worker; reply = made.reply }

-- the history of some entries: the oldest entry is the first, but the history has its newest step
-- first
abbrev pub history_of : List Entry → List Accepted
history_of entries = reverse (map accepted_of entries)

-- the entry of a number, counted from 1
abbrev pub entry_at : List Entry → ℕ → Option Entry
entry_at entries zero = None
entry_at entries (suc n) = slice_get entries n
