-- The survivors again, by places: which steps are left out, by what follows them. Own rules.
use Rattle.std.specs.Prelude.{ℕ, Bool, true, false, not, List, [], ◌∷◌, if◌then◌else◌, ◌==◌}
use Rattle.tx_base.specs.declared.steps.Accepted.{Accepted}
use Rattle.tx_model.specs.State.{State}
use Rattle.tx_model.specs.Events.{Event}
use Rattle.tx_model.specs.Membership.{Role, Outside, Within, Commits, Aborts}
use Rattle.tx_model.specs.History.{Starters, role_in, event_of}
use Rattle.tx_model.specs.Words.{event_if}

-- what becomes of a transaction
pub data Fate : Type 0 where
  Committed : Fate
  Aborted : Fate
  Live : Fate

-- what becomes of the transaction of s in steps that follow, the next one first: the first of them
-- that ends it decides
unfoldable pub fate : ℕ → List Role → Fate
fate s [] = Live
fate s (Outside ∷ later) = fate s later
fate s (Within t progress ∷ later) = fate s later
fate s (Commits t ∷ later) = if s == t then Committed else fate s later
fate s (Aborts t status ∷ later) = if s == t then Aborted else fate s later

-- whether the steps of a transaction with this fate are left out: those of an aborted one, and of a
-- live one of X
abbrev pub leaves_out : Fate → Bool → Bool
leaves_out Committed x = false
leaves_out Aborted x = true
leaves_out Live x = x

-- whether the step at a place is left out, by what follows it. If a transaction is aborted, its
-- starter's note stays
abbrev pub is_left_out : Starters → List Role → Role → Bool
is_left_out X later Outside = false
is_left_out X later (Within s progress) = leaves_out (fate s later) (X s)
is_left_out X later (Commits s) = false
is_left_out X later (Aborts s status) = false

-- the events of the steps that are not left out, of a history that is followed by steps of these
-- roles
unfoldable pub survivors_by_place : State → Starters → List Role → List Accepted → List Event
survivors_by_place S X later [] = []
survivors_by_place S X later (e ∷ h) =
    event_if (not (is_left_out X later (role_in S e h))) (event_of S e h)
    (survivors_by_place S X (role_in S e h ∷ later) h)
