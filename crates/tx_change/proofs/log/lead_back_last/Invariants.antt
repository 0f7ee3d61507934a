use Rattle.std.proofs.Common.{◌≡◌, ◌-◌, ◌++◌, length, drop}
use Rattle.tx_change.specs.Exchange.{undone}
use Rattle.tx_change.proofs.log.lead_back_last.Given as goal

abbrev pub invariant-loop-done : goal.invariant-loop-done
invariant-loop-done l =
    (l.changes.items ++ drop (length l.initial.changes.items - l._done) l.initial.changes.items ≡ l.initial.changes.items)
    × (length l.changes.items ≡ length l.initial.changes.items - l._done)
    × (l.parts ≡ undone l.initial.parts (drop (length l.initial.changes.items - l._done) l.initial.changes.items))
