use Rattle.std.proofs.Common.{◌≡◌, ◌≤◌, ◌+◌, ◌++◌, length}
use Rattle.tx_translate.specs.OwnLines.{own_lines}
use Rattle.tx_translate.specs.Plain.{numbers_from, numbers_of, plain_from, plain_of}
use Rattle.tx_translate.proofs.plain.translated.Given as goal

abbrev pub invariant-loop-line : goal.invariant-loop-line
invariant-loop-line l = record {
  bytes : plain_of l.text ≡ l.plain.text.items ++ plain_from l.stage (own_lines l.left);
  numbers : numbers_of l.text ≡ l.plain.numbers.items ++ numbers_from l.stage l.plain.after (own_lines l.left);
  after : length (own_lines l.text) + 1 ≡ l.plain.after + length (own_lines l.left);
  few : l.plain.after + length l.left ≤ length l.text + 1;
}

abbrev pub decreases-loop-line : goal.decreases-loop-line
decreases-loop-line l = length l.left
