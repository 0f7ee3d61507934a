-- One entry of the queue of realtime signals, by its place. Own rules.
use Rattle.std.specs.Prelude.{◌≡◌, ℕ, Bool, false, not, ◌&&◌, List, length, Option, Some, None, if◌then◌else◌, nat_lt, nat_le, ◌==◌, insert, remove, slice_get, position}
use Rattle.tx_model.specs.Deliveries.{first_value}
use Rattle.tx_model.specs.SignalSets.{is_in_set}
use Rattle.tx_model.specs.State.{Queued}
use Rattle.tx_base.specs.declared.limits.TheConstants.{QUEUED}

-- the place of the first entry of the signal
abbrev pub place_of : ℕ → List Queued → Option ℕ
place_of signo queue = position (λ entry. entry.signo == signo) queue

-- the entry has the value that a delivery of the signal takes from the queue first
abbrev pub IsFirstOf : ℕ → List Queued → Queued → Type 0
IsFirstOf signo queue entry = (entry.signo ≡ signo) × (first_value signo queue ≡ Some entry.value)

-- whether the entry has a lower number, and is not in the mask
abbrev pub is_lower : ℕ → ℕ → Queued → Bool
is_lower signo mask entry = nat_lt entry.signo signo && not (is_in_set mask entry.signo)

-- whether one more entry may be put in before the place
abbrev pub has_place : ℕ → List Queued → Bool
has_place place queue = if nat_le place (length queue) then nat_lt (length queue) QUEUED else false

-- the queue after an exchange at the place: with no entry, the one there is taken out; an entry is
-- put in before it, where that may be
abbrev pub entry_swapped : ℕ → Option Queued → List Queued → List Queued
entry_swapped place None queue = if nat_lt place (length queue) then remove queue place else queue
entry_swapped place (Some entry) queue =
    if has_place place queue then insert queue place entry else queue

-- the entry after the exchange: the one that was taken out, none where one was put in, else the
-- same
abbrev pub entry_given : ℕ → Option Queued → List Queued → Option Queued
entry_given place None queue = if nat_lt place (length queue) then slice_get queue place else None
entry_given place (Some entry) queue = if has_place place queue then None else Some entry
