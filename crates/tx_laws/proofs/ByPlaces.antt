-- The survivors are those that the places tell.
use Rattle.std.proofs.Common.{◌≡◌, ℕ, Bool, true, false, not, List, [], ◌∷◌, if◌then◌else◌, ◌==◌, refl, ap, ap₂, ◌∙◌}
use Rattle.tx_base.specs.declared.steps.Accepted.{Accepted}
use Rattle.tx_model.specs.State.{State}
use Rattle.tx_model.specs.Events.{Event}
use Rattle.tx_model.specs.Membership.{Role, Outside, Within, Commits, Aborts}
use Rattle.tx_model.specs.History.{Starters, left_out_before, is_left_in, survivors, role_in, event_of}
use Rattle.tx_model.specs.Words.{event_if}
use Rattle.tx_laws.specs.Places.{Committed, Aborted, fate, leaves_out, is_left_out, survivors_by_place}

-- whose transactions are left out of a history that is followed by steps of these roles
abbrev left_by : Starters → List Role → Starters
left_by X later s = leaves_out (fate s later) (X s)

-- one more step that follows
before : (X : Starters) (later : List Role) (r : Role) (s : ℕ) → left_out_before r (left_by X later) s ≡ left_by X (r ∷ later) s
unfolding fate
before X later Outside s = refl
before X later (Within t part) s = refl
before X later (Commits t) s = by (s == t)
  where
    by : (b : Bool) → (if b then false else left_by X later s) ≡ leaves_out (if b then Committed else fate s later) (X s)
    by true = refl
    by false = refl
before X later (Aborts t status) s = by (s == t)
  where
    by : (b : Bool) → (if b then true else left_by X later s) ≡ leaves_out (if b then Aborted else fate s later) (X s)
    by true = refl
    by false = refl

stays_same : (X : Starters) (later : List Role) (r : Role) → is_left_in r (left_by X later) ≡ not (is_left_out X later r)
stays_same X later Outside = refl
stays_same X later (Within s part) = refl
stays_same X later (Commits s) = refl
stays_same X later (Aborts s status) = refl

from : (S : State) (X : Starters) (later : List Role) (h : List Accepted) → survivors S (left_by X later) h ≡ survivors_by_place S X later h
unfolding survivors survivors_by_place
from S X later [] = refl
from S X later (e ∷ h) =
    let r : Role = role_in S e h in
    let same : left_out_before r (left_by X later) ≡ left_by X (r ∷ later) = λ i s. before X later r s i in
    ap₂ (λ (b : Bool) (evs : List Event). event_if b (event_of S e h) evs) (stays_same X later r)
    (ap (λ (Y : Starters). survivors S Y h) same ∙ from S X (r ∷ later) h)

pub by_places : (S : State) (X : Starters) (h : List Accepted) → survivors S X h ≡ survivors_by_place S X [] h
unfolding fate
by_places S X h = from S X [] h
