-- What a session keeps, and what holds for it.
use Rattle.std.specs.Prelude.{◌≡◌, ◌⊎◌, ℕ, ◌+◌, ◌≤◌, List, drop, length, map, reverse, take}
use Rattle.tx_base.specs.declared.steps.Accepted.{Accepted}
use Rattle.tx_change.specs.declared.change.Change.{Change}
use Rattle.tx_core.specs.Lives.{lives}
use Rattle.tx_core.specs.Machines.{IsWidth}
use Rattle.tx_journal.specs.Entries.{accepted_of, history_of}
use Rattle.tx_journal.specs.Walks.{WalksBack, WalksOn}
use Rattle.tx_journal.specs.declared.entry.Entry.{Entry}
use Rattle.tx_journal.specs.declared.journal.Journal.{Journal}
use Rattle.tx_content.specs.declared.content.Content.{Content}
use Rattle.tx_content.specs.declared.inverse.Inverse.{Inverse}
use Rattle.tx_content.specs.declared.undone.Undone.{Undone}
use Rattle.tx_model.specs.Answer.{Lawful}
use Rattle.tx_model.specs.History.{table_of}
use Rattle.tx_model.specs.State.{State, boot_state}

-- the machine's content; all entries, the oldest first; what takes back those that are made, the
-- oldest first; how many processes there may be, and with how many it was booted
pub record SessionState : Type 0 where
  pub machine : Content
  pub entries : List Entry
  pub inverses : List Inverse
  pub width : ℕ
  pub count : ℕ

-- what a session keeps, of its fields
abbrev pub session_state : Content → Journal → ℕ → ℕ → SessionState
session_state machine journal width count =
    record {
      machine = machine;
      entries = journal.entries.items;
      inverses = journal.crossings.inverses;
      width = width;
      count = count;
    }

-- the state in which it was booted
abbrev pub start_of : SessionState → State
start_of k = boot_state k.width k.count

-- how many of the entries are made
abbrev pub position_of : SessionState → ℕ
position_of k = length k.inverses

-- the entries that are made
abbrev pub made_of : SessionState → List Entry
made_of k = take (position_of k) k.entries

-- the journal is a lawful history, and the machine has the view of the entries that are made, which
-- can be taken back
pub record IsJournal (k : SessionState) : Type 0 where
  pub low : 1 ≤ k.count
  pub high : k.count ≤ k.width
  pub wide : IsWidth k.width
  pub few : position_of k ≤ length k.entries
  pub lawful : Lawful (start_of k) (history_of k.entries)
  pub walks : WalksBack (start_of k) k.machine (reverse k.inverses) (history_of (made_of k))

-- the entries that can be made again, the next one first
abbrev pub later_of : SessionState → List Accepted
later_of k = map accepted_of (drop (position_of k) k.entries)

-- what is kept makes the following entries again, the next one first
abbrev pub IsAhead : SessionState → List Undone → List Change → Type 0
IsAhead k undone stack =
    WalksOn (start_of k) k.machine undone stack (history_of (made_of k)) (later_of k)

-- how many transactions are live after the last entry
abbrev pub lives_at_end : SessionState → ℕ
lives_at_end k = lives (table_of (start_of k) (history_of k.entries))

-- given for how many entries and inverses there is room: there is room for the abort of each of
-- those
pub record HasRoom (k : SessionState) (room places : ℕ) : Type 0 where
  pub entries : length k.entries + lives_at_end k ≤ room
  pub inverses : length k.entries + lives_at_end k ≤ places

-- the session is at its end: all entries are made
abbrev pub IsAtEnd : SessionState → Type 0
IsAtEnd k = position_of k ≡ length k.entries

-- both were booted alike
pub record SameBoot (new old : SessionState) : Type 0 where
  pub width : new.width ≡ old.width
  pub count : new.count ≡ old.count

-- both have the same entries and were booted alike: they differ at most in position
pub record SameJournal (new old : SessionState) : Type 0 where
  pub entries : new.entries ≡ old.entries
  pub boot : SameBoot new old

-- a position is between two others, or is one of them
abbrev pub IsBetween : ℕ → ℕ → ℕ → Type 0
IsBetween from at to = ((from ≤ at) × (at ≤ to)) ⊎ ((to ≤ at) × (at ≤ from))
