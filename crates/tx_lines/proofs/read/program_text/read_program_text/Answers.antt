use Rattle.std.proofs.Common.{length, ap, arith}
use Rattle.tx_lines.proofs.ProgramParts.{few_lines}
use Rattle.tx_lines.proofs.read.program_text.read_program_text.Goals as goal

pub link-requires : goal.link-requires
link-requires c = omega (arith, ap length c.as_slice.ensures.value, few_lines c.in_ok-header.header.version c.in_ok-lines.lines.items c.in_ok-lines.ensures.0)
