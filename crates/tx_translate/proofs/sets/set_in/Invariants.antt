use Rattle.std.proofs.Common.{◌≡◌, Some, length}
use Rattle.tx_base.specs.Signals.{bits_of}
use Rattle.tx_translate.specs.Sets.{comma_parts, set_in, set_with_all}
use Rattle.tx_translate.proofs.sets.set_in.Given as goal

abbrev pub invariant-loop-part : goal.invariant-loop-part
invariant-loop-part l = set_in l.word ≡ set_with_all (Some (bits_of l.set)) (comma_parts l.left)

abbrev pub decreases-loop-part : goal.decreases-loop-part
decreases-loop-part l = length l.left
