-- The laws of the room for names.
use Rattle.std.specs.Prelude.{◌≡◌, ◌≤◌, ℕ, List, Option, All, Contains, length}
use Rattle.tx_desc.specs.Counts.{Agrees, HasRoom, IsBacked}
use Rattle.tx_desc.specs.Places.{Descriptors, named_in}
use Rattle.tx_desc.specs.declared.opened.Opened.{Opened}

-- where the counts are right, with at most 256 processes of 16 descriptors, what a fork and an end
-- of one of them require
abbrev pub RoomForNames : Type 0
RoomForNames = (tables : List Descriptors) (descs : List (Option Opened)) (table : Descriptors) →
    Agrees tables descs → length tables ≤ 256 → All (λ each. length each ≡ 16) tables
    → Contains tables table → IsBacked 16 table descs

-- and with it what a call on one of its descriptors requires, open or not
abbrev pub RoomForName : Type 0
RoomForName =
    (table : Descriptors) (descs : List (Option Opened)) (fd : Option ℕ) (room : ℕ) → room ≤ 16
    → IsBacked 16 table descs → HasRoom room (named_in table fd) descs
