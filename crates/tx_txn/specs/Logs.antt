-- Logs of exchanges, and what is put at a starter when one was led back.
use Rattle.std.specs.Prelude.{ℕ, List, [], ◌∷◌, ◌++◌, Option, option_map}
use Rattle.tx_base.specs.Slots.{slot_at, with_slot}
use Rattle.tx_change.specs.declared.change.Change.{Change}
use Rattle.tx_change.specs.declared.parts.Parts.{Parts}
use Rattle.tx_proc.specs.Parts.{pending_in, with_pending}
use Rattle.tx_proc.specs.declared.proc.Proc.{Proc}
use Rattle.tx_signal.specs.Parts.{PendingView}

-- a log has the oldest change first
abbrev pub newest_first : List Change → List Change
newest_first [] = []
newest_first (change ∷ changes) = newest_first changes ++ change ∷ []

-- the process with this pending at it
abbrev pub with_pending_in : PendingView → Option Proc → Option Proc
with_pending_in pending slot = option_map (with_pending pending) slot

-- the parts with this pending at process s
abbrev pub with_pending_at : ℕ → PendingView → Parts → Parts
with_pending_at s pending parts =
    record parts {
      procs = with_slot parts.procs s (with_pending_in pending (slot_at parts.procs s));
    }

-- what is pending at process s, or else this
abbrev pub pending_or : PendingView → Option Proc → PendingView
pending_or pending slot = pending_in slot pending
