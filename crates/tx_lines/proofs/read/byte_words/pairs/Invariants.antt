use Rattle.tx_lines.proofs.Hexed.{PairsSoFar}
use Rattle.tx_lines.proofs.read.byte_words.pairs.Given as goal

abbrev pub invariant-loop-at : goal.invariant-loop-at
invariant-loop-at l = PairsSoFar l.word l.at l.bytes.items
