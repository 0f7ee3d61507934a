use Rattle.std.proofs.Common.{◌≡◌, length}
use Rattle.tx_translate.specs.Words.{next_from}
use Rattle.tx_translate.proofs.words.from_word.Given as goal

abbrev pub invariant-loop-byte : goal.invariant-loop-byte
invariant-loop-byte l = next_from l.line ≡ next_from l.left

abbrev pub decreases-loop-byte : goal.decreases-loop-byte
decreases-loop-byte l = length l.left
