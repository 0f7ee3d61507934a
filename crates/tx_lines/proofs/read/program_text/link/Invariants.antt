use Rattle.std.proofs.Common.{◌≡◌, map, take}
use Rattle.std.specs.Prelude.{Some}
use Rattle.tx_lines.specs.Programs.{instructions_of, linked}
use Rattle.tx_lines.proofs.read.program_text.link.Given as goal

abbrev pub invariant-loop-at : goal.invariant-loop-at
invariant-loop-at l = map (linked l.labels.entries) (instructions_of (take l.at l.lines)) ≡ map Some l.instructions.items
