use Rattle.std.proofs.Common.{◌-◌, ◌≡◌, ◌++◌}
use Rattle.tx_journal.specs.Moved.{numbers_above}
use Rattle.tx_journal.proofs.parted.push_down.Given as goal

abbrev pub invariant-loop-number : goal.invariant-loop-number
invariant-loop-number l = l.numbers.items ++ numbers_above l.to (l.number - l.to) ≡ l.initial.numbers.items ++ numbers_above l.to (l.initial.number - l.to)

abbrev pub decreases-loop-number : goal.decreases-loop-number
decreases-loop-number l = l.number - l.to
