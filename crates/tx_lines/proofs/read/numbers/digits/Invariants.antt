use Rattle.tx_lines.proofs.Digits.{ReadsSoFar}
use Rattle.tx_lines.proofs.read.numbers.digits.Given as goal

abbrev pub invariant-loop-byte : goal.invariant-loop-byte
invariant-loop-byte l = ReadsSoFar l.word l.byte-index l.number
