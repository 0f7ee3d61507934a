use Rattle.std.proofs.Common.{◌≡◌, ◌≤◌, ◌++◌, length, drop}
use Rattle.tx_model.specs.Signals.{queued_others}
use Rattle.tx_signal.proofs.pending.others.Given as goal

abbrev pub invariant-loop-entry : goal.invariant-loop-entry
invariant-loop-entry l =
    (l.kept.items ++ queued_others l.signo.0 (drop l.entry-index l.queue) ≡ queued_others l.signo.0 l.queue) × (length l.kept.items ≤ l.entry-index)
