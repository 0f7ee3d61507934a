use Rattle.std.proofs.Common.{◌≡◌, take}
use Rattle.tx_lines.proofs.programs.copy_instructions.Given as goal

abbrev pub invariant-loop-instruction : goal.invariant-loop-instruction
invariant-loop-instruction l = l.copy.items ≡ take l.instruction-index l.instructions
