-- A stack of changes that were taken back: its last one is the top.
use Rattle.std.specs.Prelude.{◌≡◌, ℕ, ◌-◌, ◌≤◌, List, ◌++◌, length, take, drop, reverse}
use Rattle.tx_change.specs.Exchange.{AreNamed, applied, exchanged, reverted, undone}
use Rattle.tx_change.specs.Laws.{BringPlaces, HaveAllPlaces}
use Rattle.tx_change.specs.declared.change.Change.{Change}
use Rattle.tx_change.specs.declared.parts.Parts.{Parts}

-- the topmost few, the topmost first
abbrev pub top_of : ℕ → List Change → List Change
top_of count stack = reverse (drop (length stack - count) stack)

-- those below them
abbrev pub below_top : ℕ → List Change → List Change
below_top count stack = take (length stack - count) stack

-- the stack after the last few of a log were moved back onto it
abbrev pub moved_onto : List Change → Parts → List Change → List Change
moved_onto stack parts changes = stack ++ reverse (reverted parts changes)

-- what was moved back onto a stack is on top of it, in order, and what was there is below
abbrev pub MovedIsOnTop : Type 0
MovedIsOnTop =
    (stack : List Change) (parts : Parts) (changes : List Change)
    → top_of (length changes) (moved_onto stack parts changes) ≡ reverted parts changes

abbrev pub RestIsBelow : Type 0
RestIsBelow =
    (stack : List Change) (parts : Parts) (changes : List Change)
    → below_top (length changes) (moved_onto stack parts changes) ≡ stack

-- there are as many as were moved, at least
abbrev pub MovedAreThere : Type 0
MovedAreThere =
    (stack : List Change) (parts : Parts) (changes : List Change)
    → length changes ≤ length (moved_onto stack parts changes)

-- to move changes back and forward again is nothing: to the parts, and to the log
abbrev pub MovedBackAndForward : Type 0
MovedBackAndForward =
    (stack : List Change) (parts : Parts) (changes : List Change) → AreNamed parts changes →
    applied (undone parts changes) (top_of (length changes) (moved_onto stack parts changes))
    ≡ parts

abbrev pub LoggedBackAndForward : Type 0
LoggedBackAndForward =
    (stack : List Change) (parts : Parts) (changes : List Change) → AreNamed parts changes
    → BringPlaces changes → HaveAllPlaces parts →
    exchanged (undone parts changes) (top_of (length changes) (moved_onto stack parts changes))
    ≡ changes
