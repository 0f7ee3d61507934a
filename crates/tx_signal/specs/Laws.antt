-- The laws of two exchanges of an entry.
use Rattle.std.specs.Prelude.{◌≡◌, ◌≤◌, ℕ, List, length, Option}
use Rattle.tx_base.specs.declared.limits.TheConstants.{QUEUED}
use Rattle.tx_model.specs.State.{Queued}
use Rattle.tx_signal.specs.Entries.{entry_given, entry_swapped}

-- the second exchange at a place gives the queue before the first one
abbrev pub QueueComesBack : Type 0
QueueComesBack = (place : ℕ) (entry : Option Queued) (queue : List Queued) → length queue ≤ QUEUED →
    entry_swapped place (entry_given place entry queue) (entry_swapped place entry queue) ≡ queue

-- and the entry
abbrev pub EntryComesBack : Type 0
EntryComesBack = (place : ℕ) (entry : Option Queued) (queue : List Queued) → length queue ≤ QUEUED →
    entry_given place (entry_given place entry queue) (entry_swapped place entry queue) ≡ entry
