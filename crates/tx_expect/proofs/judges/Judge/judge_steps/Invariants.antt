use Rattle.std.proofs.Common.{◌≡◌, ◌≤◌, ◌+◌, ℕ, List, length}
use Rattle.tx_expect.specs.Lines.{progress_of, total}
use Rattle.tx_expect.specs.Outcomes.{after_lines}
use Rattle.tx_translate.specs.OwnLines.{own_lines}
use Rattle.tx_expect.proofs.judges.Judge.judge_steps.Given as goal

abbrev pub invariant-loop-line : goal.invariant-loop-line
invariant-loop-line l = record {
  judged : (state : List (List ℕ)) → after_lines state l.number (progress_of l.self) (own_lines l.left) ≡ after_lines state 1 (progress_of l.initial.self) (own_lines l.text);
  few : total l.self.tally + length l.left ≤ length l.text;
  numbers : l.number + length l.left ≤ length l.text + 1;
}

abbrev pub decreases-loop-line : goal.decreases-loop-line
decreases-loop-line l = length l.left
