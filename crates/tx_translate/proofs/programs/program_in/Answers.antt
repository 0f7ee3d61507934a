use Rattle.std.proofs.Common.{ap, arith, length}
use Rattle.tx_lines.proofs.ProgramParts.{few_lines}
use Rattle.tx_translate.proofs.programs.program_in.Goals as goal

pub link-requires : goal.link-requires
link-requires c =
    let all = rw c.in-Some-2.is at c.in_ok-lines.ensures in
    omega (arith, ap length c.as_slice.ensures.value, few_lines c.in-Some.header.version c.in-Some-2.lines.items all.0)
