-- What a pass of the ready queue has put and taken, and the rule that all passes keep.
use Rattle.std.specs.Prelude.{◌≡◌, ℕ, ◌+◌, ◌-◌, ◌<◌, ◌≤◌, List, [], ◌∷◌, ◌++◌, sum_by, All}
use mathlib.Core.Option.{some}
use lib.ListN.{get_elem?}
use Rattle.tx_ready_queue.specs.declared.rule.Hand.{Hand}
use Rattle.tx_ready_queue.specs.Numbers.{IsNumber, times}

-- a hand of its parts, what it put and what it took
abbrev pub hand : ℕ → List ℕ → List ℕ → Hand
hand parts put taken = record { parts = parts; put = put; taken = taken }

-- the hand after it put a number
abbrev pub puts : Hand → ℕ → Hand
puts before number = hand before.parts (before.put ++ number ∷ []) before.taken

-- the hand after it took a number
abbrev pub takes : Hand → ℕ → Hand
takes before number = hand before.parts before.put (before.taken ++ number ∷ [])

-- the hand after it gave one part away
abbrev pub keeps : Hand → Hand
keeps before = hand (before.parts - 1) before.put before.taken

-- a new hand, with one part
abbrev pub begins : Hand
begins = hand 1 [] []

-- two hands in one: their parts are added up, and what the other put and took follows what the one
-- did
abbrev pub both : Hand → Hand → Hand
both one other = hand (one.parts + other.parts) (one.put ++ other.put) (one.taken ++ other.taken)

-- it has put each number as often as it has taken it
pub record GivesBack (held : Hand) : Type 0 where
  pub even : (number : ℕ) → times number held.put ≡ times number held.taken

-- it has put each of the numbers 1 to count once more than it has taken it, and every other as
-- often
pub record HoldsEach (count : ℕ) (held : Hand) : Type 0 where
  pub once : (number : ℕ) → 1 ≤ number → number ≤ count
      → times number held.put ≡ times number held.taken + 1
  pub none : (number : ℕ) → count < number → times number held.put ≡ times number held.taken

-- a hand with no part has put and taken nothing
abbrev pub IdleIsEmpty : List Hand → Type 0
IdleIsEmpty hands =
    (pass : ℕ) (held : Hand) → get_elem? hands pass ≡ some held → held.parts ≡ 0
    → (held.put ≡ []) × (held.taken ≡ [])

-- what all hands have put is what they have taken and what the queue holds, however the numbers are
-- weighed
abbrev pub Evens : List ℕ → List Hand → Type 0
Evens items hands =
    (weight : ℕ → ℕ)
    → sum_by (λ held. sum_by weight held.put) hands
    ≡ sum_by (λ held. sum_by weight held.taken) hands + sum_by weight items

-- the rule of the queue: the parts of all hands are 65,536, what was put is what was taken and what
-- the queue holds, and it holds process numbers
pub record Balanced (items : List ℕ) (hands : List Hand) : Type 0 where
  pub parts : sum_by (λ held. held.parts) hands ≡ 65536
  pub evens : Evens items hands
  pub idle : IdleIsEmpty hands
  pub numbers : All IsNumber items

-- a hand with all parts has put what it has taken and what the queue holds
abbrev pub IsWhole : Hand → List ℕ → Type 0
IsWhole held items =
    held.parts ≡ 65536 → (weight : ℕ → ℕ)
    → sum_by weight held.put ≡ sum_by weight held.taken + sum_by weight items

-- what a take answers: the number that was taken, and that a hand with all parts has taken no more
-- than it has put
abbrev pub Taken : Hand → ℕ → Hand → Type 0
Taken before number after =
    (after ≡ takes before number)
    × IsNumber number
    × (before.parts ≡ 65536
    → (weight : ℕ → ℕ) → sum_by weight after.taken ≤ sum_by weight after.put)
