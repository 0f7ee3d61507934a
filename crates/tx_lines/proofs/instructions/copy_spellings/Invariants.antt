use Rattle.std.proofs.Common.{◌≡◌, take}
use Rattle.tx_lines.proofs.instructions.copy_spellings.Given as goal

abbrev pub invariant-loop-spelling : goal.invariant-loop-spelling
invariant-loop-spelling l = l.copy.items ≡ take l.spelling-index l.spellings
