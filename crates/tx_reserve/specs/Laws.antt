-- Footprints name objects of numbers in range; and equal owners make equal tables.
use Rattle.std.specs.Prelude.{◌≡◌, ◌≤◌, ℕ, Bool, true, false, List, Option, length, nat_lt}
use Rattle.tx_base.specs.declared.steps.Step.{Step}
use Rattle.tx_laws.specs.WellFormed.{IsWellFormed}
use Rattle.tx_model.specs.Answer.{is_running}
use Rattle.tx_model.specs.Words.{has_bad_number}
use Rattle.tx_model.specs.Events.{process_of}
use Rattle.tx_model.specs.Footprints.{footprint}
use Rattle.tx_model.specs.Membership.{Table}
use Rattle.tx_model.specs.State.{Object, Proc, Desc, Pipe, Held, State, has_object, is_between}
use Rattle.tx_base.specs.declared.names.Pid.{Pid}
use Rattle.tx_reserve.specs.Objects.{is_small}
use Rattle.tx_reserve.specs.Reservations.{owner_of}

-- whether the object's number is in range: a process 1 to the width, a description 0 to 63, a pipe
-- 0 to 31
abbrev pub is_within : ℕ → Object → Bool
is_within width (Proc n) = is_between width n
is_within width (Desc n) = nat_lt n 64
is_within width (Pipe n) = nat_lt n 32
is_within width (Held s) = false

-- in a well-formed state, the footprint of a step of a process that runs, which chooses no bad
-- number, has only objects of numbers in range
abbrev pub FootprintIsWithin : Type 0
FootprintIsWithin =
    (t : Table) (step : Step) (S : State) (o : Object) → IsWellFormed S
    → is_running (S.procs (process_of step)) ≡ true → has_bad_number S.width step ≡ false
    → has_object o (footprint t step S) ≡ true → is_within S.width o ≡ true

-- a set may have such an object, where there are at most 256 process numbers
abbrev pub WithinIsSmall : Type 0
WithinIsSmall =
    (width : ℕ) (o : Object) → width ≤ 256 → is_within width o ≡ true → is_small o ≡ true

-- two tables of owners are the same if each object has the same owner in both
abbrev pub OwnersAreExtensional : Type 0
OwnersAreExtensional =
    (one other : List (Option Pid)) → length one ≡ 352 → length other ≡ 352
    → ((o : Object) → owner_of one o ≡ owner_of other o) → one ≡ other
