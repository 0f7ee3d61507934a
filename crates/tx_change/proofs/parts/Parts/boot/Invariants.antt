use Rattle.std.proofs.Common.{◌≡◌, ℕ, length}
use Rattle.tx_base.specs.Slots.{slot_at}
use Rattle.tx_change.specs.Boot.{booted_slot}
use Rattle.tx_change.specs.Laws.{HasPlaces}
use Rattle.tx_proc.specs.Parts.{process_in}
use Rattle.tx_change.proofs.parts.Parts.boot.Given as goal

abbrev pub invariant-loop-done : goal.invariant-loop-done
invariant-loop-done l = record {
  width : length l.procs ≡ l.width;
  procs : (n : ℕ) → process_in (slot_at l.procs n) ≡ booted_slot l.done n;
  places : (n : ℕ) → HasPlaces (slot_at l.procs n);
}
