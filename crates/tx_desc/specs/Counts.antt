-- How many descriptors name a description.
use Rattle.std.specs.Prelude.{◌≡◌, ℕ, zero, suc, ◌+◌, ◌<◌, ◌≤◌, ◌^◌, List, [], ◌∷◌, ◌++◌, Option, Some, None, is_some, if◌then◌else◌, ◌==◌, count_by, sum_by, slice_index_or, nat_lt}
use Rattle.tx_model.specs.State.{Process, State, is_number}
use Rattle.tx_model.specs.Descriptors.{is_named}
use Rattle.tx_desc.specs.declared.opened.Opened.{Opened}
use Rattle.tx_desc.specs.Places.{Descriptors}

-- how many descriptors of a process name the description
abbrev pub count_in : ℕ → Descriptors → ℕ
count_in d table = count_by (is_number d) table

-- how many descriptors of all these processes name the description
abbrev pub names_in : ℕ → List Descriptors → ℕ
names_in d tables = sum_by (count_in d) tables

-- what is there has so many names, and where nothing is there are none
abbrev pub HasNames : ℕ → Option Opened → Type 0
HasNames n None = n ≡ 0
HasNames n (Some opened) = (0 < n) × (opened.names ≡ n)

-- each description has the number of its names in these tables, and is there exactly where it has
-- one
pub record Agrees (tables : List Descriptors) (descs : List (Option Opened)) : Type 0 where
  pub counted : (d : ℕ) → HasNames (names_in d tables) (slice_index_or descs d None)

-- what is there has at least so many names, and its count has room for so many more
abbrev pub IsEnough : ℕ → ℕ → Option Opened → Type 0
IsEnough n room None = n ≡ 0
IsEnough n room (Some opened) = (n ≤ opened.names) × (opened.names + room < 2 ^ 16)

-- each description that these descriptors name is there, with at least these names and room for so
-- many more
pub record IsBacked (room : ℕ) (table : Descriptors) (descs : List (Option Opened)) : Type 0 where
  pub enough : (d : ℕ) → IsEnough (count_in d table) room (slice_index_or descs d None)

-- the count of what is there has room for so many more
abbrev pub HasSpace : ℕ → Option Opened → Type 0
HasSpace room None = Unit {0}
HasSpace room (Some opened) = opened.names + room < 2 ^ 16

-- the description, if any, is there with at least one name, and its count has room for so many more
abbrev pub HasRoom : ℕ → Option ℕ → List (Option Opened) → Type 0
HasRoom room None descs = Unit {0}
HasRoom room (Some d) descs = IsEnough 1 room (slice_index_or descs d None)

-- where these descriptors become new ones, and the descriptions those after, counts that are right
-- stay so: of each number, however many others name it
pub record KeepsCounts (table new : Descriptors) (descs after : List (Option Opened)) : Type 0 where
  pub each : (d others : ℕ) → HasNames (count_in d table + others) (slice_index_or descs d None)
      → HasNames (count_in d new + others) (slice_index_or after d None)

-- a descriptor of the state names a description exactly where one of these does
abbrev pub HasNamed : State → List Descriptors → Type 0
HasNamed S tables = (d : ℕ) → is_named d S ≡ nat_lt 0 (names_in d tables)

-- the descriptors of a process that runs
abbrev pub table_of : Option Process → List Descriptors
table_of None = []
table_of (Some q) = if is_some q.status then [] else q.descriptors ∷ []

-- the descriptors of the processes that run, of numbers below n, except those of process p
unfoldable pub others_below : ℕ → ℕ → State → List Descriptors
others_below p zero S = []
others_below p (suc q) S =
    if q == p then others_below p q S else table_of (S.procs q) ++ others_below p q S

-- the descriptors of all other processes that run
abbrev pub others_of : ℕ → State → List Descriptors
others_of p S = others_below p (S.width + 1) S
