-- The counts of names after changes are taken back.
use Rattle.std.specs.Prelude.{◌≡◌, ◌⊎◌, ℕ, List, Option, Some, None, length, slice_index_or}
use Rattle.tx_base.specs.Slots.{slot_at}
use Rattle.tx_change.specs.Counts.{CountsAgree}
use Rattle.tx_change.specs.Exchange.{sizes_of, AreNamed, undone}
use Rattle.tx_change.specs.Laws.{AreElsewhere}
use Rattle.tx_change.specs.declared.change.Change.{Change}
use Rattle.tx_change.specs.declared.parts.Parts.{Parts}
use Rattle.tx_desc.specs.Places.{Descriptors}
use Rattle.tx_desc.specs.declared.opened.Opened.{Opened}
use Rattle.tx_model.specs.State.{Proc as TheProc, Desc as TheDesc}
use Rattle.tx_proc.specs.declared.proc.Proc.{Proc}

-- what of a process decides whether its descriptors count, and these
abbrev pub counting : Option Proc → Option (Option ℕ × Descriptors)
counting None = None
counting (Some proc) = Some (proc.status, proc.descriptors)

-- the same of what a description number has
abbrev pub opened_at : List (Option Opened) → ℕ → Option Opened
opened_at descs d = slice_index_or descs d None

-- counts depend only on these
abbrev pub CountsOfNames : Type 0
CountsOfNames =
    (one other : Parts) → length one.procs ≡ length other.procs
    → ((n : ℕ) → counting (slot_at one.procs n) ≡ counting (slot_at other.procs n)) →
    ((d : ℕ) → opened_at one.descs d ≡ opened_at other.descs d) → CountsAgree one
    → CountsAgree other

-- counts that agree before and after a step, and before it with a log led back, agree after it with
-- that log led back, where at each process and description the log or the step changed nothing that
-- counts
abbrev pub CountsLedBack : Type 0
CountsLedBack =
    (before after : Parts) (log : List Change) → sizes_of after ≡ sizes_of before
    → AreNamed before log →
    ((n : ℕ)
    → AreElsewhere (TheProc n) log
    ⊎ (counting (slot_at before.procs n) ≡ counting (slot_at after.procs n))) →
    ((d : ℕ)
    → AreElsewhere (TheDesc d) log
    ⊎ (opened_at before.descs d ≡ opened_at after.descs d)) →
    CountsAgree before → CountsAgree after → CountsAgree (undone before log)
    → CountsAgree (undone after log)

-- changes that are taken back leave what none of them names as it was
abbrev pub BackElsewhere : Type 0
BackElsewhere = (parts : Parts) (changes : List Change) → AreNamed parts changes →
    ((n : ℕ) → AreElsewhere (TheProc n) changes
    → slot_at (undone parts changes).procs n ≡ slot_at parts.procs n)
    × ((d : ℕ) → AreElsewhere (TheDesc d) changes
    → opened_at (undone parts changes).descs d ≡ opened_at parts.descs d)
