use Rattle.std.proofs.Common.{length}
use Rattle.tx_translate.proofs.PlacedWords.{Found}
use Rattle.tx_translate.proofs.words.words_in.Given as goal

abbrev pub invariant-loop-word : goal.invariant-loop-word
invariant-loop-word l = Found l.line l.left l.words.items

abbrev pub decreases-loop-word : goal.decreases-loop-word
decreases-loop-word l = length l.left
