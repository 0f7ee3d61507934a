use Rattle.std.proofs.Common.{◌≡◌, ℕ, ◌+◌, ◌^◌, bit_or, drop, ap, sym, ◌∙◌, arith}
use Rattle.tx_model.specs.Signals.{queued_signals}
use Rattle.tx_model.specs.State.{Queued}
use Rattle.tx_signal.proofs.QueueFacts.{signals_step, signals_end}
use Rattle.tx_signal.proofs.pending.signals_of.Goals as goal

pub loop-entry-preserved : goal.loop-entry-preserved
loop-entry-preserved c =
    let entry = c.entry-item.result in
    let left = queued_signals (drop (c.loop-entry.entry-index + 1) c.args.queue.now) in
    let number : c.entry.inside.signo.0 ≡ entry.signo = ap (λ (one : Queued). one.signo) c.entry.view_is in
    let set : c.with-set.result.0 ≡ bit_or c.loop-entry.set.0 (2 ^ entry.signo) = c.with-set.ensures ∙ ap (λ (n : ℕ). bit_or c.loop-entry.set.0 (2 ^ n)) number in
    ap (λ (n : ℕ). bit_or n left) set ∙ signals_step c.args.queue.now c.loop-entry.entry-index entry c.loop-entry.set.0 (omega arith) c.entry-item.is ∙ c.loop-entry.invariant

pub returns : goal.returns
returns c = sym (signals_end c.args.queue.now c.loop-entry.entry-index c.loop-entry.set.0 (omega arith)) ∙ c.loop-entry.invariant
