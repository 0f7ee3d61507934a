-- A queue and frames that are within their limits.
use Rattle.std.proofs.Common.{◌≡◌, ℕ, ◌-◌, ◌≤◌, List, Option, None, length, take, refl}
use Rattle.std.proofs.lemmas.Bool.{le-ltb}
use Rattle.tx_model.specs.Signals.{newest_frame}
use Rattle.tx_model.specs.State.{Queued as Entry, Frame as Saved}
use Rattle.tx_proc.specs.Parts.{queue_swapped, queue_given, frames_swapped, frame_given}
use Rattle.tx_signal.specs.Entries.{entry_swapped, entry_given}
use Rattle.tx_base.specs.declared.limits.TheConstants.{QUEUED, FRAMES}

pub queue_fits : (place : ℕ) (entry : Option Entry) (queue : List Entry) → length queue ≤ QUEUED → entry_swapped place entry queue ≡ queue_swapped place entry queue
queue_fits place entry queue fits = rw (le-ltb QUEUED (length queue) fits) refl

pub entry_fits : (place : ℕ) (entry : Option Entry) (queue : List Entry) → length queue ≤ QUEUED → entry_given place entry queue ≡ queue_given place entry queue
entry_fits place entry queue fits = rw (le-ltb QUEUED (length queue) fits) refl

pub frames_fit : (frames : List Saved) → length frames ≤ FRAMES → take (length frames - 1) frames ≡ frames_swapped None frames
frames_fit frames fits = rw (le-ltb FRAMES (length frames) fits) refl

pub frame_fits : (frames : List Saved) → length frames ≤ FRAMES → newest_frame frames ≡ frame_given None frames
frame_fits frames fits = rw (le-ltb FRAMES (length frames) fits) refl
