-- What a clause sees of a station of the ready queue, and of the tally at its end.
use Rattle.std.specs.Prelude.{◌≡◌, ℕ, ◌+◌, ◌<◌, ◌≤◌, ◌^◌, List, [], length, slice_index, sum, sum_by}
use Rattle.atomic_table.specs.Seated.{TableId}
use Rattle.crossbeam_queue.specs.Passes.{Pass, view}
use Rattle.tx_ready_queue.specs.declared.queue.ReadyQueue.{ReadyQueue}
use Rattle.tx_ready_queue.specs.declared.rule.Hand.{Hand}
use Rattle.tx_ready_queue.specs.declared.tally.Tally.{Tally}
use Rattle.tx_ready_queue.specs.Numbers.{times, HasCounted}

-- a station: which queue it is at, and what it has put and taken
pub record Standing : Type 0 where
  pub queue : TableId
  pub hand : Hand

-- it is at this queue
abbrev pub IsStationOf : ReadyQueue → Standing → Type 0
IsStationOf ready station = station.queue ≡ ready.ring.table.shared.table_id

-- what is so of every station: it has a part, no slot of the queue is out with it, it has put fewer
-- numbers than a word can count, and its counts are those of its hand
pub record IsKept (pass : Pass ℕ Hand) (pushed popped : List ℕ) : Type 0 where
  pub part : 0 < (view pass).parts
  pub back : pass.me.1 ≡ []
  pub short : length (view pass).put < 2 ^ 64
  pub pushes : HasCounted pushed (view pass).put
  pub pops : HasCounted popped (view pass).taken

-- what a hand with all parts drained from the queue was counted: it is what the hand has put and
-- not taken, however the numbers are weighed
pub record HasDrained (hand : Hand) (left : List ℕ) : Type 0 where
  pub drained : List ℕ
  pub counted : HasCounted left drained
  pub evens : (weight : ℕ → ℕ)
      → sum_by weight hand.put ≡ sum_by weight hand.taken + sum_by weight drained

-- the tally of a hand with all parts: how often each number was put, how often it was taken, and
-- how often it is left; it was put as often as the two others together. The counts added up are the
-- lengths of the lists
pub record IsTally (hand : Hand) (tally : Tally) : Type 0 where
  pub pushes : HasCounted tally.pushed hand.put
  pub pops : HasCounted tally.popped hand.taken
  pub places : length tally.left ≡ 256
  pub adds_up : (place : ℕ) → place < 256
      → slice_index tally.pushed place
      ≡ slice_index tally.popped place + slice_index tally.left place
  pub left : (place : ℕ) → place < 256
      → times (place + 1) hand.put ≡ times (place + 1) hand.taken + slice_index tally.left place
  pub all_pushes : sum tally.pushed ≡ length hand.put
  pub all_pops : sum tally.popped ≡ length hand.taken
  pub all_left : length hand.put ≡ length hand.taken + sum tally.left

-- each of the numbers 1 to count is left once, and no other is
pub record LeavesEach (count : ℕ) (tally : Tally) : Type 0 where
  pub once : (place : ℕ) → place < count → slice_index tally.left place ≡ 1
  pub none : (place : ℕ) → count ≤ place → place < 256 → slice_index tally.left place ≡ 0
