use Rattle.std.specs.Fmt.{decimal}
use Rattle.tx_shell.proofs.AfterFront.{only_after}
use Rattle.tx_shell.proofs.lines.pieces.byte_after.Goals as goal

pub returns-clause-only : goal.returns-clause-only
returns-clause-only c byte small spelled =
    only_after c.args.front.now c.args.words.now c.in_ok-rest_after.field-0.now (decimal byte) c.read_byte.result byte c.in_ok-rest_after.ensures (c.read_byte.ensures.only byte small) spelled
