-- The laws of exchanges.
use Rattle.std.specs.Prelude.{◌≡◌, ◌≤◌, ℕ, ◌+◌, Bool, true, false, not, List, [], ◌∷◌, ◌++◌, length, drop, option_map, Option, Some, None, if◌then◌else◌, ◌==◌}
use Rattle.tx_base.specs.declared.limits.TheConstants.{PIPE_BYTES}
use Rattle.tx_base.specs.Slots.{slot_at}
use Rattle.tx_change.specs.Exchange.{Sizes, AreWithin, parts_after, change_after, object_of, sizes_of, IsNamed, AreNamed, applied, exchanged, undone, reverted}
use Rattle.tx_change.specs.States.{changed, changed_by, state_of}
use Rattle.tx_change.specs.declared.change.Change.{Change}
use Rattle.tx_change.specs.declared.change.Change.TheVariants.{Slot, Part, Description, Pipe}
use Rattle.tx_change.specs.declared.parts.Parts.{Parts}
use Rattle.tx_change.specs.Own.{AreOf}
use Rattle.tx_change.specs.Pipes.{piped_in}
use Rattle.tx_change.specs.declared.pipes.PipePart.TheVariants.{Front, Back}
use Rattle.tx_model.specs.State.{Object, Process, State, Sending, same_object, SetProc, write_one}
use Rattle.tx_model.specs.StateLaws.{EqualAt}
use Rattle.tx_proc.specs.Laws.{IsSized}
use Rattle.tx_proc.specs.Parts.{is_same_part, revised}
use Rattle.tx_proc.specs.declared.proc.Proc.{Proc}

-- a process that is there has a place for each number
abbrev pub HasPlaces : Option Proc → Type 0
HasPlaces None = Unit {0}
HasPlaces (Some proc) = IsSized proc

-- each process has
abbrev pub HaveAllPlaces : Parts → Type 0
HaveAllPlaces parts = (n : ℕ) → HasPlaces (slot_at parts.procs n)

-- the process that a change has a part of has
abbrev pub HasPlacesFor : Parts → Change → Type 0
HasPlacesFor parts (Part pid part) = HasPlaces (slot_at parts.procs pid.0)
HasPlacesFor parts change = Unit {0}

-- a process that comes has a place for each number
abbrev pub BringsPlaces : Change → Type 0
BringsPlaces (Slot pid slot) = HasPlaces slot
BringsPlaces change = Unit {0}

abbrev pub BringPlaces : List Change → Type 0
BringPlaces [] = Unit {0}
BringPlaces (change ∷ changes) = BringsPlaces change × BringPlaces changes

-- whether neither change has a part that the other has or holds: a process number holds all parts
-- of its process
abbrev pub are_apart : Change → Change → Bool
are_apart (Slot pid slot) (Slot other new) = not (pid.0 == other.0)
are_apart (Slot pid slot) (Part other new) = not (pid.0 == other.0)
are_apart (Part pid part) (Slot other new) = not (pid.0 == other.0)
are_apart (Part pid part) (Part other new) =
    if pid.0 == other.0 then not (is_same_part part new) else true
are_apart (Description number opened) (Description other new) = not (number.0 == other.0)
are_apart (Pipe number part) (Pipe other new) = not (number.0 == other.0)
are_apart change other = true

-- two exchanges are nothing, to the parts and to the change
abbrev pub TwiceIsNothing : Type 0
TwiceIsNothing =
    (parts : Parts) (change : Change) → IsNamed parts change → HasPlacesFor parts change →
    (parts_after (parts_after parts change) (change_after parts change) ≡ parts)
    × (change_after (parts_after parts change) (change_after parts change) ≡ change)

-- to exchange the change again puts the parts back
abbrev pub ExchangesBack : Type 0
ExchangesBack =
    (parts : Parts) (change : Change) → IsNamed parts change
    → parts_after (parts_after parts change) (change_after parts change) ≡ parts

-- an exchange leaves every part that is apart from it as it was
abbrev pub NothingElse : Type 0
NothingElse =
    (parts : Parts) (change other : Change) → IsNamed parts change → are_apart change other ≡ true →
    change_after (parts_after parts change) other ≡ change_after parts other

-- two parts that are apart may be exchanged in either order
abbrev pub Commute : Type 0
Commute =
    (parts : Parts) (change other : Change) → IsNamed parts change → IsNamed parts other
    → are_apart change other ≡ true →
    parts_after (parts_after parts change) other ≡ parts_after (parts_after parts other) change

-- to exchange all again, the last one first, puts the parts back
abbrev pub ApplyThenRevert : Type 0
ApplyThenRevert =
    (parts : Parts) (changes : List Change) → AreNamed parts changes
    → undone (applied parts changes) (exchanged parts changes) ≡ parts

-- to exchange what was taken back again, the first one first, puts the parts back too
abbrev pub RevertThenApply : Type 0
RevertThenApply =
    (parts : Parts) (changes : List Change) → AreNamed parts changes
    → applied (undone parts changes) (reverted parts changes) ≡ parts

-- what an exchange makes of the state that the parts mean
abbrev pub ChangesState : Type 0
ChangesState = (held : ℕ → List Sending) (parts : Parts) (change : Change) → IsNamed parts change →
    state_of held (parts_after parts change) ≡ changed change (state_of held parts)

-- the same of exchanges one after another
abbrev pub ChangesStateInTurn : Type 0
ChangesStateInTurn =
    (held : ℕ → List Sending) (parts : Parts) (changes : List Change) → AreNamed parts changes →
    state_of held (applied parts changes) ≡ changed_by changes (state_of held parts)

-- it leaves that state as it was except at the object that the change names
abbrev pub NamesItsObject : Type 0
NamesItsObject =
    (held : ℕ → List Sending) (parts : Parts) (change : Change) → IsNamed parts change
    → (o : Object) → same_object o (object_of change) ≡ false →
    EqualAt (state_of held (parts_after parts change)) (state_of held parts) o

-- what a list of changes with another one after it does, the first does and then the other
abbrev pub AppliedAppended : Type 0
AppliedAppended =
    (parts : Parts) (front behind : List Change)
    → applied parts (front ++ behind) ≡ applied (applied parts front) behind

abbrev pub ExchangedAppended : Type 0
ExchangedAppended =
    (parts : Parts) (front behind : List Change)
    → exchanged parts (front ++ behind)
    ≡ exchanged parts front ++ exchanged (applied parts front) behind

abbrev pub UndoneAppended : Type 0
UndoneAppended =
    (parts : Parts) (front behind : List Change)
    → undone parts (front ++ behind) ≡ undone (undone parts behind) front

abbrev pub RevertedAppended : Type 0
RevertedAppended =
    (parts : Parts) (front behind : List Change)
    → reverted parts (front ++ behind)
    ≡ reverted (undone parts behind) front ++ reverted parts behind

abbrev pub ChangedAppended : Type 0
ChangedAppended =
    (S : State) (front behind : List Change)
    → changed_by (front ++ behind) S ≡ changed_by behind (changed_by front S)

abbrev pub NamedAppended : Type 0
NamedAppended =
    (parts : Parts) (front behind : List Change) → AreNamed parts front → AreNamed parts behind
    → AreNamed parts (front ++ behind)

-- what changes have once they were exchanged names the same numbers
abbrev pub ExchangedStayNamed : Type 0
ExchangedStayNamed =
    (sizes : Sizes) (parts : Parts) (changes : List Change) → AreWithin sizes changes
    → AreWithin sizes (exchanged parts changes)

abbrev pub RevertedStayNamed : Type 0
RevertedStayNamed =
    (sizes : Sizes) (parts : Parts) (changes : List Change) → AreWithin sizes changes
    → AreWithin sizes (reverted parts changes)

-- none of the changes names the object
abbrev pub AreElsewhere : Object → List Change → Type 0
AreElsewhere o [] = Unit {0}
AreElsewhere o (change ∷ changes) =
    (same_object o (object_of change) ≡ false) × AreElsewhere o changes

-- a list of changes leaves the state as it was at each object that none of them names
abbrev pub ListNamesItsObjects : Type 0
ListNamesItsObjects =
    (changes : List Change) (S : State) (o : Object) → AreElsewhere o changes
    → EqualAt (changed_by changes S) S o

-- a process with each part replaced that the changes have, the first one first
abbrev pub revised_once : Change → Process → Process
revised_once (Part pid part) me = revised part me
revised_once change me = me

abbrev pub revised_by : List Change → Process → Process
revised_by [] me = me
revised_by (change ∷ changes) me = revised_by changes (revised_once change me)

-- changes of parts of one process replace that process, and nothing else
abbrev pub PartsReplaceProcess : Type 0
PartsReplaceProcess = (n : ℕ) (changes : List Change) (S : State) → AreOf n changes →
    changed_by changes S ≡ write_one (SetProc n (option_map (revised_by changes) (S.procs n))) S

-- no bytes in place of the first few are a read of these
abbrev pub FrontIsRead : Type 0
FrontIsRead =
    (held : List ℕ) (count : ℕ) → count ≤ length held → length held ≤ PIPE_BYTES
    → piped_in (Some held) (Front count []) ≡ Some (drop count held)

-- bytes in place of none at the back are a write of these
abbrev pub BackIsWrite : Type 0
BackIsWrite =
    (held bytes : List ℕ) → length held + length bytes ≤ PIPE_BYTES
    → piped_in (Some held) (Back 0 bytes) ≡ Some (held ++ bytes)

-- where each process has its places, and each one that comes, each has them after the changes
abbrev pub PlacesStay : Type 0
PlacesStay =
    (parts : Parts) (changes : List Change) → AreNamed parts changes → BringPlaces changes
    → HaveAllPlaces parts → HaveAllPlaces (applied parts changes)

-- what is taken out of the parts has its places where the parts have, and so has what was put in
abbrev pub ExchangedBring : Type 0
ExchangedBring =
    (parts : Parts) (changes : List Change) → AreNamed parts changes → BringPlaces changes
    → HaveAllPlaces parts → BringPlaces (exchanged parts changes)

-- to exchange what was taken back again, the first one first, gives the changes back as they were
abbrev pub ChangesComeBack : Type 0
ChangesComeBack =
    (parts : Parts) (changes : List Change) → AreNamed parts changes → BringPlaces changes
    → HaveAllPlaces parts →
    exchanged (undone parts changes) (reverted parts changes) ≡ changes

-- changes that are taken back leave each process its places too
abbrev pub PlacesStayBack : Type 0
PlacesStayBack =
    (parts : Parts) (changes : List Change) → AreNamed parts changes → BringPlaces changes
    → HaveAllPlaces parts → HaveAllPlaces (undone parts changes)

-- changes leave as many numbers as there were
abbrev pub SizesStay : Type 0
SizesStay =
    (parts : Parts) (changes : List Change) → sizes_of (applied parts changes) ≡ sizes_of parts

abbrev pub SizesStayBack : Type 0
SizesStayBack =
    (parts : Parts) (changes : List Change) → sizes_of (undone parts changes) ≡ sizes_of parts
