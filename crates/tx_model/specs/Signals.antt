-- Actions, the mask, what is pending, and the frames of caught signals.
use Rattle.std.specs.Prelude.{ℕ, ◌-◌, Bool, true, false, List, [], ◌∷◌, length, ℤ, pos, negsuc, Option, Some, None, if◌then◌else◌, nat_lt, ◌==◌, bit_or, slice_set, slice_get, take}
use Rattle.tx_base.specs.declared.limits.TheConstants.{LAST_POINT}
use Rattle.tx_base.specs.Signals.{bits_of, set_of_bits}
use Rattle.tx_base.specs.declared.signals.Action.{Action}
use Rattle.tx_base.specs.declared.signals.Action.TheVariants.{Usual, Ignore, Catch}
use Rattle.tx_base.specs.declared.signals.How.{How}
use Rattle.tx_base.specs.declared.signals.How.TheVariants.{Block, Unblock, Set}
use Rattle.tx_base.specs.declared.signals.SigSet.{SigSet}
use Rattle.tx_model.specs.SignalSets.{child_signo, is_known, maskable, set_difference, without_one, with_one_more}
use Rattle.tx_model.specs.State.{Process, Queued, Frame}

abbrev pub known_signal : ℤ → Option ℕ
known_signal (pos n) = if is_known n then Some n else None
known_signal (negsuc n) = None

abbrev pub queued_others : ℕ → List Queued → List Queued
queued_others signo [] = []
queued_others signo (entry ∷ entries) =
    if entry.signo == signo
    then queued_others signo entries
    else entry ∷ queued_others signo entries

-- every pending occurrence is gone
abbrev pub without_signal : ℕ → Process → Process
without_signal signo me =
    record me { pending = without_one me.pending signo; queued = queued_others signo me.queued }

abbrev pub maskable_action : Action → Action
maskable_action (Catch point mask) = Catch point (set_of_bits (maskable (bits_of mask)))
maskable_action action = action

-- a catch point over 65,535
abbrev pub is_bad_action : Action → Bool
is_bad_action (Catch point mask) = nat_lt LAST_POINT point
is_bad_action action = false

-- what a delivery comes to
pub data Disposition : Type 0 where
  Ignored : Disposition
  Fatal : Disposition
  -- at a point, with these signals blocked too
  Caught : ℕ → SigSet → Disposition

-- usually SIGCHLD is ignored, and all others end the process
abbrev pub disposition : ℕ → Action → Disposition
disposition signo Usual = if signo == child_signo then Ignored else Fatal
disposition signo Ignore = Ignored
disposition signo (Catch point mask) = Caught point mask

abbrev pub is_ignoring : Disposition → Bool
is_ignoring Ignored = true
is_ignoring disposition = false

abbrev pub with_action : ℕ → Action → Process → Process
with_action signo action me =
    record me { actions = slice_set me.actions signo (maskable_action action) }

abbrev pub changed_mask : How → ℕ → ℕ → ℕ
changed_mask Block set mask = bit_or mask set
changed_mask Unblock set mask = set_difference mask set
changed_mask Set set mask = set

abbrev pub queued_signals : List Queued → ℕ
queued_signals [] = 0
queued_signals (entry ∷ entries) = with_one_more (queued_signals entries) entry.signo

abbrev pub pending_signals : Process → ℕ
pending_signals me = bit_or me.pending (queued_signals me.queued)

abbrev pub newest_frame : List Frame → Option Frame
newest_frame frames = slice_get frames (length frames - 1)

abbrev pub with_frame : Frame → Process → Process
with_frame frame me =
    record me {
      registers = frame.registers;
      mask = frame.mask;
      frames = take (length me.frames - 1) me.frames;
    }
