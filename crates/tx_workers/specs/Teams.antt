-- Workers, and what they noted.
use Rattle.std.specs.Prelude.{◌≡◌, ℕ, ◌+◌, ◌≤◌, Bool, true, false, List, [], ◌∷◌, ◌==◌, length, vec_len}
use Rattle.tx_base.specs.declared.steps.Accepted.{Accepted}
use Rattle.tx_journal.specs.Entries.{accepted_of}
use Rattle.tx_journal.specs.declared.entry.Entry.{Entry}
use Rattle.tx_workers.specs.declared.runner.Runner.{Runner}
use Rattle.tx_workers.specs.declared.worker.Worker.{Worker}

-- the note of an entry before others, if it is the worker's
abbrev pub noted_if : Bool → Entry → List Accepted → List Accepted
noted_if true entry notes = accepted_of entry ∷ notes
noted_if false entry notes = notes

-- the steps and replies of the entries of the worker of that number
abbrev pub notes_of : ℕ → List Entry → List Accepted
notes_of number [] = []
notes_of number (entry ∷ entries) =
    noted_if (entry.worker == number) entry (notes_of number entries)

-- the place of an entry before others, if it is the worker's
abbrev pub placed_if : Bool → ℕ → List ℕ → List ℕ
placed_if true place places = place ∷ places
placed_if false place places = places

-- the places of the entries of the worker of that number, of which the first entry has that place
abbrev pub places_of : ℕ → ℕ → List Entry → List ℕ
places_of number place [] = []
places_of number place (entry ∷ entries) =
    placed_if (entry.worker == number) place (places_of number (place + 1) entries)

-- the workers of the numbers from that one on, each with no more than one step a turn
abbrev pub IsCrew : ℕ → ℕ → List Worker → Type 0
IsCrew number turns [] = Unit {0}
IsCrew number turns (worker ∷ workers) =
    (worker.number ≡ number) × (vec_len worker.notes ≤ turns) × IsCrew (number + 1) turns workers

-- how many steps they noted
abbrev pub noted : List Worker → ℕ
noted [] = 0
noted (worker ∷ workers) = vec_len worker.notes + noted workers

-- a worker of that number in a run, which made no more than one entry a turn; its share counts what
-- it made
pub record IsWorkOf (number turns : ℕ) (runner : Runner) (parts amount : ℕ) : Type 0 where
  pub number_is : runner.number ≡ number
  pub few : vec_len runner.made ≤ turns
  pub part : parts ≡ 1
  pub counted : amount ≡ vec_len runner.made

-- such workers of the numbers from that one on
abbrev pub AreRunners : ℕ → ℕ → List Runner → Type 0
AreRunners number turns [] = Unit {0}
AreRunners number turns (runner ∷ runners) =
    (runner.number ≡ number) × (vec_len runner.made ≤ turns) × AreRunners (number + 1) turns runners

-- how many entries they made
abbrev pub made : List Runner → ℕ
made [] = 0
made (runner ∷ runners) = vec_len runner.made + made runners

-- what a team of so many workers gives back, with a share of so many parts and that amount
pub record IsTeam (count turns : ℕ) (runners : List Runner) (parts amount : ℕ) : Type 0 where
  pub count_is : length runners ≡ count
  pub crew : AreRunners 1 turns runners
  pub parts_are : parts ≡ count + 1
  pub counted : amount ≡ made runners
