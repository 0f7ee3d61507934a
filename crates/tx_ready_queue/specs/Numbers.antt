-- Process numbers, and how often each is in a list.
use Rattle.std.specs.Prelude.{◌≡◌, ℕ, ◌+◌, ◌<◌, ◌≤◌, ◌==◌, List, length, slice_index, count_by, All}

-- it is a process number: 1 to 256
abbrev pub IsNumber : ℕ → Type 0
IsNumber number = (1 ≤ number) × (number ≤ 256)

-- how often a number is in a list
abbrev pub times : ℕ → List ℕ → ℕ
times number list = count_by (λ x. x == number) list

-- the counts are those of the list: at the place p - 1 is how often it has the number p, and it has
-- no others
pub record HasCounted (counts list : List ℕ) : Type 0 where
  pub places : length counts ≡ 256
  pub counted : (place : ℕ) → place < 256 → slice_index counts place ≡ times (place + 1) list
  pub numbers : All IsNumber list
