-- What workers at the ready queue give back.
use Rattle.std.specs.Prelude.{◌≡◌, ℕ, ◌+◌, ◌*◌, ◌^◌, ◌<◌, ◌≤◌, List, length, sum, vec_len, slice_index}
use Rattle.tx_ready_queue.specs.Hands.{GivesBack, HoldsEach}
use Rattle.tx_ready_queue.specs.Stations.{LeavesEach}
use Rattle.tx_ready_queue.specs.declared.rule.Hand.{Hand}
use Rattle.tx_ready_queue.specs.declared.tally.Tally.{Tally}
use Rattle.tx_workers.specs.Teams.{made, IsTeam, IsWorkOf}
use Rattle.tx_workers.specs.declared.runner.Runner.{Runner}

-- the most numbers that a worker takes in all of its turns
abbrev pub most_taken : ℕ
most_taken = 2 ^ 40

-- a worker of that number: it put back each process number that it took, and it took at least one
-- for each entry that it made
pub record IsService (number turns : ℕ) (runner : Runner) (parts amount : ℕ) (held : Hand)
    : Type 0 where
  pub work : IsWorkOf number turns runner parts amount
  pub part : held.parts ≡ 1
  pub back : GivesBack held
  pub few_put : length held.put ≤ most_taken
  pub few_taken : length held.taken ≤ most_taken
  pub enough : vec_len runner.made ≤ length held.taken

-- so many of a run's workers, with their stations in one: each of so many process numbers was put
-- once more than it was taken, and at least one number was taken for each entry that was made
pub record IsCrewOf (count turns total processes : ℕ) (runners : List Runner) (shares amount : ℕ)
    (held : Hand) : Type 0 where
  pub team : IsTeam count turns runners shares amount
  pub parts : held.parts + total ≡ 65536 + count
  pub each : HoldsEach processes held
  pub few_put : length held.put ≤ processes + count * most_taken
  pub few_taken : length held.taken ≤ count * most_taken
  pub enough : made runners ≤ length held.taken

-- the tally of a run by the ready queue: each number was put as often as it was taken and is left,
-- each number that a process may have is left once and no other is, and at least one number was
-- taken for each of so many steps
pub record IsTallied (processes steps : ℕ) (tally : Tally) : Type 0 where
  pub adds_up : (place : ℕ) → place < 256
      → slice_index tally.pushed place
      ≡ slice_index tally.popped place + slice_index tally.left place
  pub left : LeavesEach processes tally
  pub enough : steps ≤ sum tally.popped
