-- How many processes of the table have a number as their parent.
use Rattle.std.specs.Prelude.{◌≡◌, ℕ, ◌+◌, ◌<◌, ◌≤◌, Bool, false, List, Option, Some, None, if◌then◌else◌, ◌==◌, count_by, length, slice_index_or}
use Rattle.tx_base.specs.declared.names.Pid.{Pid}
use Rattle.tx_proc.specs.declared.proc.Proc.{Proc}

-- whether a slot has a process with this parent
abbrev pub is_child_of : ℕ → Option Proc → Bool
is_child_of p None = false
is_child_of p (Some proc) = proc.parent.0 == p

-- how many processes in the slots have this parent
abbrev pub child_count : ℕ → List (Option Proc) → ℕ
child_count p slots = count_by (is_child_of p) slots

-- the parent of the process in a slot
abbrev pub parent_in : Option Proc → Option Pid
parent_in None = None
parent_in (Some proc) = Some proc.parent

-- each number up to the width has the count of its children
pub record IsCounted (slots : List (Option Proc)) (counts : List ℕ) : Type 0 where
  pub width : length counts ≡ length slots + 1
  pub each : (p : ℕ) → p ≤ length slots → slice_index_or counts p 0 ≡ child_count p slots

-- what a process with this parent, if there is one, adds to the count of a number
abbrev pub one_of : ℕ → Option Pid → ℕ
one_of p None = 0
one_of p (Some parent) = if parent.0 == p then 1 else 0

-- the counts after a process with the one parent is replaced by one with the other
pub record Recounts (old new : Option Pid) (counts recounted : List ℕ) : Type 0 where
  pub width : length recounted ≡ length counts
  pub each : (p : ℕ) → p < length counts
      → slice_index_or recounted p 0 + one_of p old ≡ slice_index_or counts p 0 + one_of p new

-- the process with this parent, if there is one, is counted, and there is room for one more of each
-- parent
pub record HasOne (parent : Option Pid) (counts : List ℕ) : Type 0 where
  pub counted : (p : ℕ) → p < length counts → one_of p parent ≤ slice_index_or counts p 0
  pub few : (p : ℕ) → p < length counts → slice_index_or counts p 0 < length counts
