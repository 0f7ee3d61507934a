-- What a run of workers gives back.
use Rattle.std.specs.Prelude.{◌≡◌, ℕ, List, [], ◌∷◌, ◌++◌, All, length}
use Rattle.tx_journal.specs.Sessions.{start_of, IsAtEnd, SessionState, SameBoot}
use Rattle.tx_journal.specs.declared.entry.Entry.{Entry}
use Rattle.tx_lines.specs.declared.programs.Program.{Program}
use Rattle.tx_workers.specs.Histories.{EachNamed}
use Rattle.tx_workers.specs.Teams.{made, noted, notes_of, places_of, AreRunners, IsCrew}
use Rattle.tx_workers.specs.declared.runner.Runner.{Runner}
use Rattle.tx_workers.specs.declared.worker.Worker.{Worker}

-- the session is what was handed in and entries that the program names, each on the view of those
-- before it: as many as the workers noted. There are as many workers as were asked for, numbered
-- from 1, each with no more than one step a turn; and each noted exactly the added entries of its
-- number, in their order
pub record IsWorked (program : Program) (given : SessionState) (count turns : ℕ)
    (session : SessionState) (workers : List Worker) : Type 0 where
  pub added : List Entry
  pub grown : session.entries ≡ given.entries ++ added
  pub boot : SameBoot session given
  pub at_end : IsAtEnd session
  pub named : EachNamed program.instructions.items (start_of given) given.entries added
  pub counted : length added ≡ noted workers
  pub count_is : length workers ≡ count
  pub crew : IsCrew 1 turns workers
  pub notes : All (λ worker. worker.notes.items ≡ notes_of worker.number added) workers

-- the same before notes are made: each worker kept exactly the places of the added entries of its
-- number, in their order
pub record IsOutcome (program : Program) (given : SessionState) (count turns : ℕ)
    (session : SessionState) (runners : List Runner) : Type 0 where
  pub added : List Entry
  pub grown : session.entries ≡ given.entries ++ added
  pub boot : SameBoot session given
  pub at_end : IsAtEnd session
  pub named : EachNamed program.instructions.items (start_of given) given.entries added
  pub counted : length added ≡ made runners
  pub count_is : length runners ≡ count
  pub crew : AreRunners 1 turns runners
  pub places :
      All (λ runner. runner.made.items ≡ places_of runner.number (length given.entries) added)
      runners

-- the workers that those were, each with exactly the notes of the entries of its number, in their
-- order
abbrev pub AreNoted : List Entry → List Runner → List Worker → Type 0
AreNoted added [] [] = Unit {0}
AreNoted added [] (worker ∷ workers) = ⊥
AreNoted added (runner ∷ runners) [] = ⊥
AreNoted added (runner ∷ runners) (worker ∷ workers) =
    (worker.number ≡ runner.number)
    × (worker.notes.items ≡ notes_of runner.number added)
    × AreNoted added runners workers
