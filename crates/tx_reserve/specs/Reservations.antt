-- Who owns which object: the starter of the transaction that reserved it.
use Rattle.std.specs.Prelude.{◌≡◌, ◌⊎◌, ℕ, ◌≤◌, Bool, true, List, Option, Some, None, if◌then◌else◌, ◌==◌, nat_lt, option_map, slice_index_or}
use Rattle.tx_base.specs.declared.names.Pid.{Pid}
use Rattle.tx_model.specs.State.{Object}
use Rattle.tx_reserve.specs.Objects.{is_small, place_of}

-- the number of a process
abbrev pub number_of : Pid → ℕ
number_of pid = pid.0

-- the object's owner, if it has one: the starter in its place
unfoldable pub owner_of : List (Option Pid) → Object → Option ℕ
owner_of places o =
    if is_small o then option_map number_of (slice_index_or places (place_of o) None) else None

-- the owner, unless it is this one
abbrev pub unless : Option ℕ → Option ℕ → Option ℕ
unless own None = None
unless None (Some s) = Some s
unless (Some p) (Some s) = if s == p then None else Some s

-- the lesser of two numbers, either of which may be missing
abbrev pub lesser_of : Option ℕ → Option ℕ → Option ℕ
lesser_of None b = b
lesser_of (Some a) None = Some a
lesser_of (Some a) (Some b) = if nat_lt b a then Some b else Some a

-- the number is at most the other; one that is missing is above all
abbrev pub IsAtMost : Option ℕ → Option ℕ → Type 0
IsAtMost a None = Unit {0}
IsAtMost None (Some t) = ⊥
IsAtMost (Some s) (Some t) = s ≤ t

-- the number after is the least of the one before and of those that these places have
pub record IsLeastWith (these : ℕ → Type 0) (number : ℕ → Option ℕ) (before after : Option ℕ)
    : Type 0 where
  pub from : (after ≡ before) ⊎ ((place : ℕ) × ((these place) × (number place ≡ after)))
  pub to_before : IsAtMost after before
  pub to_each : (place : ℕ) → these place → IsAtMost after (number place)

-- one of these objects has the number, and none has a lesser one
pub record IsLeastOf (these : Object → Bool) (number : Object → Option ℕ) (s : ℕ) : Type 0 where
  pub at : Object
  pub among : these at ≡ true
  pub has : number at ≡ Some s
  pub least : (o : Object) (t : ℕ) → these o ≡ true → number o ≡ Some t → s ≤ t

-- the least number that one of these objects has; none if none has one
abbrev pub IsLeast : (Object → Bool) → (Object → Option ℕ) → Option ℕ → Type 0
IsLeast these number None = (o : Object) → these o ≡ true → number o ≡ None
IsLeast these number (Some s) = IsLeastOf these number s
