-- What the notes of a history say of the entries to put together.
use Rattle.std.specs.Prelude.{ℕ, suc, Bool, true, false, not, ◌&&◌, ◌==◌, List, [], ◌∷◌, Option, Some, None, length, map, reverse, if◌then◌else◌}
use Rattle.tx_base.specs.declared.steps.Accepted.{Accepted}
use Rattle.tx_journal.specs.Moved.{Numbers, numbers_above, with_other_number, with_own_number}
use Rattle.tx_model.specs.State.{State}
use Rattle.tx_journal.specs.Notes.{Noted, note_of, noted}
use Rattle.tx_journal.specs.declared.notes.Note.{Note}

-- the notes of the steps of a history, the newest first
unfoldable pub notes_in : State → List Accepted → List Noted
notes_in S [] = []
notes_in S (e ∷ h) = note_of S e h ∷ notes_in S h

-- notes that begin with the oldest, the newest first
abbrev pub noted_back : List Note → List Noted
noted_back notes = reverse (map noted notes)

abbrev pub is_starter : ℕ → Option ℕ → Bool
is_starter s None = false
is_starter s (Some t) = t == s

-- whether the step is the first one of the transaction of s
abbrev pub begins_its : ℕ → Noted → Bool
begins_its s n = n.begins && is_starter s n.starter

-- the starter of the transaction that the step commits
abbrev pub commit_of : Noted → Option ℕ
commit_of n = if n.commits then n.starter else None

-- the numbers of the steps of the transaction of s, back to its first, and of all others
unfoldable pub parted_by : ℕ → List Noted → Numbers
parted_by s [] = record { own = []; others = [] }
parted_by s (n ∷ ns) =
    if begins_its s n then record {
      own = suc (length ns) ∷ [];
      others = numbers_above 0 (length ns);
    }
    else (if is_starter s n.starter
    then with_own_number (suc (length ns)) (parted_by s ns)
    else with_other_number (suc (length ns)) (parted_by s ns))

-- no step of the transaction of s, back to its first, shows its moment
unfoldable pub is_silent_by : ℕ → List Noted → Bool
is_silent_by s [] = true
is_silent_by s (n ∷ ns) =
    if begins_its s n then true
    else (if is_starter s n.starter then not n.reveals && is_silent_by s ns else is_silent_by s ns)
