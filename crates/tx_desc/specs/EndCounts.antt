-- How many descriptions each side of each pipe has.
use Rattle.std.specs.Prelude.{◌≡◌, ℕ, ◌+◌, ◌*◌, ◌<◌, ◌≤◌, List, Option, if◌then◌else◌, count_by, length, slice_index_or}
use Rattle.tx_desc.specs.declared.opened.Opened.{Opened}
use Rattle.tx_desc.specs.declared.opened.Side.{Side}
use Rattle.tx_desc.specs.declared.opened.Side.TheVariants.{Read, Write}
use Rattle.tx_desc.specs.Descriptions.{is_end_of}

-- the place of the count of a side of a pipe
abbrev pub end_number : Side → ℕ → ℕ
end_number Read k = k * 2
end_number Write k = k * 2 + 1

-- the count that a side of a pipe has
abbrev pub count_at : Side → ℕ → List ℕ → ℕ
count_at side k counts = slice_index_or counts (end_number side k) 0

-- there are 64 places, and each side of each pipe has the count of its descriptions there
pub record IsCounted (places : List (Option Opened)) (counts : List ℕ) : Type 0 where
  pub sized : length places ≡ 64
  pub each : (side : Side) (k : ℕ) → k < 256
      → count_at side k counts ≡ count_by (is_end_of side k) places

-- what a place adds to the count of a side of a pipe
abbrev pub one_of : Side → ℕ → Option Opened → ℕ
one_of side k place = if is_end_of side k place then 1 else 0

-- the counts after what the one place has is replaced by what the other has
pub record Recounts (old new : Option Opened) (counts recounted : List ℕ) : Type 0 where
  pub each : (side : Side) (k : ℕ) → k < 256
      → count_at side k recounted + one_of side k old ≡ count_at side k counts + one_of side k new

-- what the place has is counted, and each side of each pipe has room for one more
pub record HasOne (place : Option Opened) (counts : List ℕ) : Type 0 where
  pub counted : (side : Side) (k : ℕ) → k < 256 → one_of side k place ≤ count_at side k counts
  pub few : (side : Side) (k : ℕ) → k < 256 → count_at side k counts < 255
