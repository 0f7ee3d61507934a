-- The counts of names: each description has that of the descriptors that name it.
use Rattle.std.specs.Prelude.{◌≡◌, ℕ, zero, suc, ◌+◌, ◌≤◌, List, [], ◌∷◌, ◌++◌, Option, Some, None, IsSome, is_some, option_map, if◌then◌else◌, ◌==◌, length, slice_set}
use Rattle.tx_base.specs.Slots.{slot_at, with_slot}
use Rattle.tx_base.specs.declared.names.Pid.{Pid}
use Rattle.tx_change.specs.Exchange.{parts_after, applied, sizes_of, IsPid, IsNamed, AreNamed}
use Rattle.tx_change.specs.Laws.{HaveAllPlaces}
use Rattle.tx_change.specs.States.{state_of}
use Rattle.tx_change.specs.declared.change.Change.{Change}
use Rattle.tx_change.specs.declared.change.Change.TheVariants.{Slot, Part, Description, Pipe}
use Rattle.tx_change.specs.declared.parts.Parts.{Parts}
use Rattle.tx_desc.specs.Counts.{Agrees, HasRoom, IsBacked, KeepsCounts, others_of, table_of}
use Rattle.tx_desc.specs.Places.{Descriptors, named_in}
use Rattle.tx_desc.specs.Plans.{AreFds, AreNumbers, put_names, put_descs}
use Rattle.tx_desc.specs.declared.plans.NewName.{NewName}
use Rattle.tx_desc.specs.declared.plans.NewDesc.{NewDesc}
use Rattle.tx_desc.specs.declared.opened.Opened.{Opened}
use Rattle.tx_model.specs.State.{Sending, State}
use Rattle.tx_proc.specs.Parts.{edited_once}
use Rattle.tx_proc.specs.declared.proc.Part.TheVariants.{Status, Descriptor}
use Rattle.tx_proc.specs.declared.proc.Proc.{Proc}

-- the descriptors of the processes that run, of numbers below n
unfoldable pub tables_below : ℕ → State → List Descriptors
tables_below zero S = []
tables_below (suc n) S = table_of (S.procs n) ++ tables_below n S

-- the descriptors of all processes that run
abbrev pub tables_of : Parts → List Descriptors
tables_of parts = tables_below (length parts.procs + 1) (state_of (λ starter. []) parts)

-- each description has as many names as descriptors that name it, and is there exactly where it has
-- one
abbrev pub CountsAgree : Parts → Type 0
CountsAgree parts = Agrees (tables_of parts) parts.descs

-- the parts with another process at a number, and other descriptions
abbrev pub with_names : ℕ → Option Proc → List (Option Opened) → Parts → Parts
with_names n slot descs parts = record parts { procs = with_slot parts.procs n slot; descs = descs }

-- a number has a process that runs, with these descriptors
abbrev pub RunsAt : Parts → ℕ → Descriptors → Type 0
RunsAt parts n table =
    (proc : Proc)
    × (slot_at parts.procs n ≡ Some proc)
    × (proc.status ≡ None)
    × (proc.descriptors ≡ table)

-- the descriptors of a process that runs and those of all others are those that the counts agree
-- with
abbrev pub CountsWithOthers : Type 0
CountsWithOthers =
    (held : ℕ → List Sending) (parts : Parts) (n : ℕ) (table : Descriptors)
    → IsPid (sizes_of parts) n → CountsAgree parts → RunsAt parts n table →
    Agrees (table ∷ others_of n (state_of held parts)) parts.descs

-- a call changes a process's descriptors and the descriptions, and keeps the counts: what each call
-- of tx_desc on one process's descriptors does
abbrev pub CountsKept : Type 0
CountsKept =
    (parts : Parts) (n : ℕ) (table : Descriptors) (new : Proc) (descs : List (Option Opened))
    → IsPid (sizes_of parts) n → CountsAgree parts →
    RunsAt parts n table → new.status ≡ None →
    ((others : List Descriptors) → Agrees (table ∷ others) parts.descs
    → Agrees (new.descriptors ∷ others) descs) →
    CountsAgree (with_names n (Some new) descs parts)

-- a free number gets a process that runs, as by fork
abbrev pub CountsForked : Type 0
CountsForked =
    (parts : Parts) (n : ℕ) (child : Proc) (descs : List (Option Opened)) → IsPid (sizes_of parts) n
    → CountsAgree parts →
    slot_at parts.procs n ≡ None → child.status ≡ None →
    ((others : List Descriptors) → Agrees others parts.descs
    → Agrees (child.descriptors ∷ others) descs) →
    CountsAgree (with_names n (Some child) descs parts)

-- a process that runs ends
abbrev pub CountsEnded : Type 0
CountsEnded =
    (parts : Parts) (n : ℕ) (table : Descriptors) (ended : Proc) (descs : List (Option Opened))
    → IsPid (sizes_of parts) n → CountsAgree parts →
    RunsAt parts n table → IsSome ended.status →
    ((others : List Descriptors) → Agrees (table ∷ others) parts.descs → Agrees others descs) →
    CountsAgree (with_names n (Some ended) descs parts)

-- an ended process is removed, as by waitpid
abbrev pub CountsRemoved : Type 0
CountsRemoved =
    (parts : Parts) (n : ℕ) (ended : Proc) → IsPid (sizes_of parts) n → CountsAgree parts →
    slot_at parts.procs n ≡ Some ended → IsSome ended.status
    → CountsAgree (with_names n None parts.descs parts)

-- the change is not of a whole process, a descriptor, a status or a description
abbrev pub IsNameless : Change → Type 0
IsNameless (Part pid (Status status)) = ⊥
IsNameless (Part pid (Descriptor number name)) = ⊥
IsNameless (Part pid part) = Unit {0}
IsNameless (Pipe number part) = Unit {0}
IsNameless change = ⊥

-- a change of nothing that names or is named keeps the counts
abbrev pub CountsElsewhere : Type 0
CountsElsewhere =
    (parts : Parts) (change : Change) → IsNamed parts change → IsNameless change → CountsAgree parts
    → CountsAgree (parts_after parts change)

-- the descriptors that count of what a process number has: those of a process that runs
abbrev pub counted_in : Option Proc → Descriptors
counted_in None = []
counted_in (Some proc) = if is_some proc.status then [] else proc.descriptors

-- what process number n has after changes of parts, the first one first
abbrev pub slot_after : ℕ → List Change → Option Proc → Option Proc
slot_after n [] slot = slot
slot_after n (Slot pid new ∷ changes) slot = slot_after n changes (if n == pid.0 then new else slot)
slot_after n (Part pid part ∷ changes) slot =
    slot_after n changes
    (if n == pid.0 then option_map (λ proc. edited_once proc part) slot else slot)
slot_after n (Description number opened ∷ changes) slot = slot_after n changes slot
slot_after n (Pipe number part ∷ changes) slot = slot_after n changes slot

-- the descriptions after them
abbrev pub descs_after : List Change → List (Option Opened) → List (Option Opened)
descs_after [] descs = descs
descs_after (Slot pid slot ∷ changes) descs = descs_after changes descs
descs_after (Part pid part ∷ changes) descs = descs_after changes descs
descs_after (Description number opened ∷ changes) descs =
    descs_after changes (slice_set descs number.0 opened)
descs_after (Pipe number part ∷ changes) descs = descs_after changes descs

-- the change is not of the whole, the status or a descriptor of a process other than n
abbrev pub IsNamesOf : ℕ → Change → Type 0
IsNamesOf n (Slot pid slot) = pid.0 ≡ n
IsNamesOf n (Part pid (Status status)) = pid.0 ≡ n
IsNamesOf n (Part pid (Descriptor number name)) = pid.0 ≡ n
IsNamesOf n change = Unit {0}

abbrev pub AreNamesOf : ℕ → List Change → Type 0
AreNamesOf n [] = Unit {0}
AreNamesOf n (change ∷ changes) = IsNamesOf n change × AreNamesOf n changes

-- what a number has after changes follows from the changes of it
abbrev pub SlotInTurn : Type 0
SlotInTurn = (parts : Parts) (changes : List Change) (n : ℕ) → AreNamed parts changes →
    slot_at (applied parts changes).procs n ≡ slot_after n changes (slot_at parts.procs n)

abbrev pub DescsInTurn : Type 0
DescsInTurn =
    (parts : Parts) (changes : List Change)
    → (applied parts changes).descs ≡ descs_after changes parts.descs

-- changes of the names of one process and of descriptions, among others that name nothing: as those
-- of a call, a fork, an end and a wait
abbrev pub CountsInTurn : Type 0
CountsInTurn =
    (parts : Parts) (changes : List Change) (n : ℕ) → IsPid (sizes_of parts) n
    → AreNamed parts changes → AreNamesOf n changes → CountsAgree parts →
    KeepsCounts (counted_in (slot_at parts.procs n))
    (counted_in (slot_after n changes (slot_at parts.procs n))) parts.descs
    (descs_after changes parts.descs) →
    CountsAgree (applied parts changes)

-- the changes that put planned names of a process in place, and planned descriptions
abbrev pub name_changes : Pid → List NewName → List Change
name_changes pid [] = []
name_changes pid (new ∷ news) = Part pid (Descriptor new.fd new.name) ∷ name_changes pid news

abbrev pub desc_changes : List NewDesc → List Change
desc_changes [] = []
desc_changes (new ∷ news) = Description new.number new.opened ∷ desc_changes news

-- they name valid numbers, and only names of that process
abbrev pub PlansAreNamed : Type 0
PlansAreNamed =
    (parts : Parts) (pid : Pid) (names : List NewName) (descs : List NewDesc)
    → IsPid (sizes_of parts) pid.0 → length parts.descs ≡ 64 →
    AreFds names → AreNumbers descs →
    AreNamed parts (name_changes pid names ++ desc_changes descs)
    × AreNamesOf pid.0 (name_changes pid names ++ desc_changes descs)

-- a process with these names put in place
abbrev pub with_put : List NewName → Proc → Proc
with_put names proc = record proc { descriptors = put_names names proc.descriptors }

-- what they leave is what the plan says, to any changes that follow
abbrev pub PlansInTurn : Type 0
PlansInTurn =
    (pid : Pid) (names : List NewName) (descs : List NewDesc) (changes : List Change)
    (slot : Option Proc) (before : List (Option Opened)) →
    (slot_after pid.0 (name_changes pid names ++ desc_changes descs ++ changes) slot
    ≡ slot_after pid.0 changes (option_map (with_put names) slot))
    × (descs_after (name_changes pid names ++ desc_changes descs ++ changes) before
    ≡ descs_after changes (put_descs descs before))

-- the changes are of nothing that names or is named
abbrev pub AreNameless : List Change → Type 0
AreNameless [] = Unit {0}
AreNameless (change ∷ changes) = IsNameless change × AreNameless changes

-- a call's plan of the names of a process that runs and of descriptions, before changes that name
-- nothing
abbrev pub CountsPlanned : Type 0
CountsPlanned =
    (parts : Parts) (pid : Pid) (proc : Proc) (names : List NewName) (descs : List NewDesc)
    (others : List Change)
    → IsPid (sizes_of parts) pid.0 →
    length parts.descs ≡ 64 → AreFds names → AreNumbers descs → AreNamed parts others
    → AreNameless others → CountsAgree parts →
    slot_at parts.procs pid.0 ≡ Some proc → proc.status ≡ None →
    KeepsCounts proc.descriptors (put_names names proc.descriptors) parts.descs
    (put_descs descs parts.descs) →
    CountsAgree (applied parts (name_changes pid names ++ desc_changes descs ++ others))

-- a plan of descriptions for a process that comes to a number, or ends there, before changes that
-- name nothing
abbrev pub CountsReplaced : Type 0
CountsReplaced =
    (parts : Parts) (pid : Pid) (slot : Option Proc) (descs : List NewDesc) (others : List Change)
    → IsPid (sizes_of parts) pid.0 →
    length parts.descs ≡ 64 → AreNumbers descs → AreNamed parts others → AreNameless others
    → CountsAgree parts →
    KeepsCounts (counted_in (slot_at parts.procs pid.0)) (counted_in slot) parts.descs
    (put_descs descs parts.descs) →
    CountsAgree (applied parts (desc_changes descs ++ Slot pid slot ∷ others))

-- what the calls of tx_desc on one descriptor of a process ask, open or not
abbrev pub RoomForName : Type 0
RoomForName =
    (parts : Parts) (n : ℕ) (table : Descriptors) (fd : Option ℕ) (room : ℕ) → room ≤ 16
    → IsPid (sizes_of parts) n → CountsAgree parts → HaveAllPlaces parts →
    length parts.procs ≤ 256 → RunsAt parts n table → HasRoom room (named_in table fd) parts.descs

-- what those on all descriptors of a process ask
abbrev pub RoomForNames : Type 0
RoomForNames =
    (parts : Parts) (n : ℕ) (table : Descriptors) → IsPid (sizes_of parts) n → CountsAgree parts
    → HaveAllPlaces parts → length parts.procs ≤ 256 →
    RunsAt parts n table → IsBacked 16 table parts.descs

-- changes of nothing that names or is named keep the counts
abbrev pub CountsNameless : Type 0
CountsNameless =
    (parts : Parts) (changes : List Change) → AreNamed parts changes → AreNameless changes
    → CountsAgree parts → CountsAgree (applied parts changes)
