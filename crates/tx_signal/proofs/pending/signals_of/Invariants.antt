use Rattle.std.proofs.Common.{◌≡◌, bit_or, drop}
use Rattle.tx_base.specs.Signals.{bits_of}
use Rattle.tx_model.specs.Signals.{queued_signals}
use Rattle.tx_signal.proofs.pending.signals_of.Given as goal

abbrev pub invariant-loop-entry : goal.invariant-loop-entry
invariant-loop-entry l = bit_or (bits_of l.set) (queued_signals (drop l.entry-index l.queue)) ≡ queued_signals l.queue
