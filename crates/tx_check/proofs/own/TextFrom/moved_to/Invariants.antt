use Rattle.std.proofs.Common.{◌≡◌}
use Rattle.tx_check.specs.Numbered.{after_lines}
use Rattle.tx_check.proofs.own.TextFrom.moved_to.Given as goal

abbrev pub invariant-loop-passed : goal.invariant-loop-passed
invariant-loop-passed l = l.left ≡ after_lines l._passed l.initial.left
