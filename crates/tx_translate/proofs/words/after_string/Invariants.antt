use Rattle.std.proofs.Common.{◌≡◌, length}
use Rattle.tx_translate.specs.Words.{rest_from}
use Rattle.tx_translate.specs.declared.reading.Reading.TheVariants.{InString}
use Rattle.tx_translate.proofs.words.after_string.Given as goal

abbrev pub invariant-loop-byte : goal.invariant-loop-byte
invariant-loop-byte l = rest_from InString l.line ≡ rest_from InString l.left

abbrev pub decreases-loop-byte : goal.decreases-loop-byte
decreases-loop-byte l = length l.left
