-- Entries that a program names, each on the view of those before it.
use Rattle.std.specs.Prelude.{◌≡◌, ℕ, List, [], ◌∷◌, ◌++◌}
use Rattle.tx_journal.specs.Entries.{history_of}
use Rattle.tx_journal.specs.declared.entry.Entry.{Entry}
use Rattle.tx_model.specs.State.{State}
use Rattle.tx_model.specs.View.{View, view}
use Rattle.tx_lines.specs.declared.instructions.Instruction.{Instruction}
use Rattle.tx_workers.specs.Turns.{turn_adds}

-- the view of some entries
abbrev pub view_after : State → List Entry → View
view_after start entries = view start (history_of entries)

-- the entry is what the turn of a process adds on the view of those before it: the step that the
-- program names for it, or the abort of its doomed transaction
pub record IsNamed (instructions : List Instruction) (start : State) (before : List Entry)
    (entry : Entry) : Type 0 where
  pub process : ℕ
  pub adds : turn_adds instructions (view_after start before) entry.worker process ≡ entry ∷ []

-- so is each of some entries, after those before it
abbrev pub AllNamed : List Instruction → State → List Entry → List Entry → Type 0
AllNamed instructions start before [] = Unit {0}
AllNamed instructions start before (entry ∷ entries) =
    IsNamed instructions start before entry
    × AllNamed instructions start (before ++ entry ∷ []) entries

-- the same, of each entry at its place
abbrev pub EachNamed : List Instruction → State → List Entry → List Entry → Type 0
EachNamed instructions start given added =
    (before : List Entry) (entry : Entry) (after : List Entry) → added ≡ before ++ entry ∷ after
    → IsNamed instructions start (given ++ before) entry
