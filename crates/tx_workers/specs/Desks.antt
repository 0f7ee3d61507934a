-- What is under the lock.
use Rattle.std.specs.Prelude.{◌≡◌, ℕ, List, ◌++◌, length, Option, Some}
use Rattle.tx_journal.specs.Sessions.{start_of, IsAtEnd, SessionState, SameBoot}
use Rattle.tx_journal.specs.declared.entry.Entry.{Entry}
use Rattle.tx_lines.specs.declared.instructions.Instruction.{Instruction}
use Rattle.tx_lines.specs.declared.programs.Program.{Program}
use Rattle.tx_workers.specs.Histories.{AllNamed}

-- the session is what was handed in and so many more entries, each named by the program
pub record HasGrown (instructions : List Instruction) (given session : SessionState) (total : ℕ)
    : Type 0 where
  pub added : List Entry
  pub grown : session.entries ≡ given.entries ++ added
  pub named : AllNamed instructions (start_of given) given.entries added
  pub counted : length added ≡ total
  pub boot : SameBoot session given

-- the session is at its end; and it has grown, from what it is known was handed in and by the
-- program that it is known is run
pub record IsDesk (run : Option Program) (given : Option SessionState) (session : SessionState)
    (total : ℕ) : Type 0 where
  pub at_end : IsAtEnd session
  pub grown : (program : Program) (start : SessionState) → run ≡ Some program → given ≡ Some start
      → HasGrown program.instructions.items start session total
