-- What a turn does to a session and to the worker that takes it.
use Rattle.std.specs.Prelude.{◌≡◌, ℕ, List, ◌++◌, map}
use Rattle.tx_journal.specs.Entries.{accepted_of}
use Rattle.tx_journal.specs.Sessions.{SessionState, IsAtEnd, SameBoot}
use Rattle.tx_journal.specs.declared.entry.Entry.{Entry}
use Rattle.tx_workers.specs.declared.worker.Worker.{Worker}

-- the same worker, with the same notes
pub record SameWorker (new old : Worker) : Type 0 where
  pub number : new.number ≡ old.number
  pub total : new.total ≡ old.total
  pub last : new.last ≡ old.last
  pub notes : new.notes.items ≡ old.notes.items

-- entries were added to the session
pub record Grows (added : List Entry) (old new : SessionState) : Type 0 where
  pub entries : new.entries ≡ old.entries ++ added
  pub boot : SameBoot new old
  pub at_end : IsAtEnd new

-- entries were added, and noted by the worker whose last process is now that one
pub record Adds (added : List Entry) (latest : ℕ) (old : SessionState) (worker : Worker)
    (new : SessionState) (after : Worker) : Type 0 where
  pub entries : new.entries ≡ old.entries ++ added
  pub boot : SameBoot new old
  pub at_end : IsAtEnd new
  pub notes : after.notes.items ≡ worker.notes.items ++ map accepted_of added
  pub number : after.number ≡ worker.number
  pub total : after.total ≡ worker.total
  pub last : after.last ≡ latest
