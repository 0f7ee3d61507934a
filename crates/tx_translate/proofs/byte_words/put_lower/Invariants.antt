use Rattle.std.proofs.Common.{◌≡◌, ◌++◌, length, map}
use Rattle.std.specs.Char.{to_ascii_lowercase}
use Rattle.tx_translate.proofs.byte_words.put_lower.Given as goal

abbrev pub invariant-loop-digit : goal.invariant-loop-digit
invariant-loop-digit l = l.initial.room.items ++ map to_ascii_lowercase l.digits ≡ l.room.items ++ map to_ascii_lowercase l.left

abbrev pub decreases-loop-digit : goal.decreases-loop-digit
decreases-loop-digit l = length l.left
