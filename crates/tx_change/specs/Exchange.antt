-- What exchanges of parts of the kernel leave.
use Rattle.std.specs.Prelude.{ℕ, ◌<◌, ◌≤◌, List, [], ◌∷◌, Option, None, option_map, length, slice_index_or, slice_set}
use Rattle.tx_base.specs.Slots.{slot_at, with_slot}
use Rattle.tx_change.specs.Pipes.{piped_in, part_in as pipe_part_in}
use Rattle.tx_change.specs.declared.change.Change.{Change}
use Rattle.tx_change.specs.declared.change.Change.TheVariants.{Slot, Part, Description, Pipe}
use Rattle.tx_change.specs.declared.parts.Parts.{Parts}
use Rattle.tx_model.specs.State.{Object, Proc as TheProc, Desc as TheDesc, Pipe as ThePipe}
use Rattle.tx_proc.specs.Parts.{edited_once, part_in, HasPlace}

-- the object that the part is of
abbrev pub object_of : Change → Object
object_of (Slot pid slot) = TheProc pid.0
object_of (Part pid part) = TheProc pid.0
object_of (Description number opened) = TheDesc number.0
object_of (Pipe number part) = ThePipe number.0

-- what a pipe number has
abbrev pub pipe_at : List (Option (List ℕ)) → ℕ → Option (List ℕ)
pipe_at pipes number = slice_index_or pipes number None

-- the parts after the exchange
abbrev pub parts_after : Parts → Change → Parts
parts_after parts (Slot pid slot) = record parts { procs = with_slot parts.procs pid.0 slot }
parts_after parts (Part pid part) =
    record parts {
      procs =
          with_slot parts.procs pid.0
          (option_map (λ proc. edited_once proc part) (slot_at parts.procs pid.0));
    }
parts_after parts (Description number opened) =
    record parts { descs = slice_set parts.descs number.0 opened }
parts_after parts (Pipe number part) =
    record parts {
      pipes = slice_set parts.pipes number.0 (piped_in (pipe_at parts.pipes number.0) part);
    }

-- the change after the exchange: it has the part that was there
abbrev pub change_after : Parts → Change → Change
change_after parts (Slot pid slot) = Slot pid (slot_at parts.procs pid.0)
change_after parts (Part pid part) = Part pid (part_in (slot_at parts.procs pid.0) part)
change_after parts (Description number opened) =
    Description number (slice_index_or parts.descs number.0 None)
change_after parts (Pipe number part) =
    Pipe number (pipe_part_in (pipe_at parts.pipes number.0) part)

-- how many numbers there are of each kind
pub record Sizes : Type 0 where
  pub procs : ℕ
  pub descs : ℕ
  pub pipes : ℕ

abbrev pub sizes_of : Parts → Sizes
sizes_of parts =
    record { procs = length parts.procs; descs = length parts.descs; pipes = length parts.pipes }

-- a process number is valid
pub record IsPid (sizes : Sizes) (n : ℕ) : Type 0 where
  pub low : 1 ≤ n
  pub high : n ≤ sizes.procs

-- where there are so many numbers, those of the change are among them
abbrev pub IsWithin : Sizes → Change → Type 0
IsWithin sizes (Slot pid slot) = IsPid sizes pid.0
IsWithin sizes (Part pid part) = IsPid sizes pid.0 × HasPlace part
IsWithin sizes (Description number opened) = number.0 < sizes.descs
IsWithin sizes (Pipe number part) = number.0 < sizes.pipes

abbrev pub AreWithin : Sizes → List Change → Type 0
AreWithin sizes [] = Unit {0}
AreWithin sizes (change ∷ changes) = IsWithin sizes change × AreWithin sizes changes

-- the numbers of the change are valid
abbrev pub IsNamed : Parts → Change → Type 0
IsNamed parts change = IsWithin (sizes_of parts) change

abbrev pub AreNamed : Parts → List Change → Type 0
AreNamed parts changes = AreWithin (sizes_of parts) changes

-- the parts after each change was exchanged, the first one first
abbrev pub applied : Parts → List Change → Parts
applied parts [] = parts
applied parts (change ∷ changes) = applied (parts_after parts change) changes

-- what the changes have then
abbrev pub exchanged : Parts → List Change → List Change
exchanged parts [] = []
exchanged parts (change ∷ changes) =
    change_after parts change ∷ exchanged (parts_after parts change) changes

-- the parts after each change was exchanged, the last one first
abbrev pub undone : Parts → List Change → Parts
undone parts [] = parts
undone parts (change ∷ changes) = parts_after (undone parts changes) change

-- what the changes have then
abbrev pub reverted : Parts → List Change → List Change
reverted parts [] = []
reverted parts (change ∷ changes) =
    change_after (undone parts changes) change ∷ reverted parts changes
