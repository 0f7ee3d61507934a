use Rattle.std.proofs.Common.{◌≡◌, drop}
use Rattle.tx_lines.specs.Programs.{label_in}
use Rattle.tx_lines.proofs.instructions.label_in.Given as goal

abbrev pub invariant-loop-spelling : goal.invariant-loop-spelling
invariant-loop-spelling l = label_in l.spellings ≡ label_in (drop l.spelling-index l.spellings)
