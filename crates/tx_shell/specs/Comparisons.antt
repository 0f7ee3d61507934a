-- How the states at two positions differ.
use Rattle.std.specs.Prelude.{ℕ, ◌≤◌, ◌&&◌, Bool, List, Option, Some, None, if◌then◌else◌, length, max, min, nat_le}
use Rattle.tx_base.specs.declared.steps.Accepted.{Accepted}
use Rattle.tx_model.specs.State.{State}
use Rattle.tx_script.specs.Debug.{view_at}
use Rattle.tx_shell.specs.Differences.{views_differing}

-- whether a history has so many steps, and so many others
abbrev pub are_there : List Accepted → ℕ → ℕ → Bool
are_there history from to = nat_le from (length history) && nat_le to (length history)

-- how the state after so many of its steps differs from that after so many others, where it has
-- them
abbrev pub differing_between : State → List Accepted → ℕ → ℕ → Option (List ℕ)
differing_between start history from to =
    if are_there history from to
    then Some (views_differing (view_at start history from) (view_at start history to))
    else None

-- one of two positions that are compared; the old one where they are not both there
abbrev pub compared_at : List Accepted → ℕ → ℕ → ℕ → ℕ → ℕ
compared_at history from to old at = if are_there history from to then at else old

-- a position is between the least and the greatest of three, or is one of these
pub record IsAmong (one two three at : ℕ) : Type 0 where
  pub least : min one (min two three) ≤ at
  pub greatest : at ≤ max one (max two three)
