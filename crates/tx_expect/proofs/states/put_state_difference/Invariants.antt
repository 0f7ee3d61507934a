use Rattle.std.proofs.Common.{◌≡◌, ◌≤◌, ◌+◌, length, string_bytes}
use Rattle.tx_expect.specs.Outcomes.{state_lines}
use Rattle.tx_expect.specs.States.{state_difference}
use Rattle.tx_translate.specs.OwnLines.{own_lines}
use Rattle.tx_expect.proofs.states.put_state_difference.Given as goal

abbrev pub invariant-loop-line : goal.invariant-loop-line
invariant-loop-line l = record {
  found : state_difference l.at (own_lines l.lines) (l.at + 1) (state_lines l.state) ≡ state_difference l.at (own_lines l.left) l.number (own_lines l.to_come);
  same : string_bytes l.report ≡ string_bytes l.initial.report;
  few : l.number + length l.left ≤ l.at + 1 + length l.lines;
}

abbrev pub decreases-loop-line : goal.decreases-loop-line
decreases-loop-line l = length l.left
