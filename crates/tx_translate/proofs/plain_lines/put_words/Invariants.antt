use Rattle.std.proofs.Common.{◌≡◌, ◌++◌, length}
use Rattle.tx_translate.specs.Lines.{spaced}
use Rattle.tx_translate.specs.Words.{words_in}
use Rattle.tx_translate.proofs.plain_lines.put_words.Given as goal

abbrev pub invariant-loop-word : goal.invariant-loop-word
invariant-loop-word l = l.initial.room.items ++ spaced (words_in l.words) ≡ l.room.items ++ spaced (words_in l.left)

abbrev pub decreases-loop-word : goal.decreases-loop-word
decreases-loop-word l = length l.left
