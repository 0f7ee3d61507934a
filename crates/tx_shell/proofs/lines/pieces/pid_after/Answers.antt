use Rattle.std.specs.Fmt.{decimal}
use Rattle.tx_shell.proofs.AfterFront.{only_after}
use Rattle.tx_shell.proofs.lines.pieces.pid_after.Goals as goal

pub returns-clause-only : goal.returns-clause-only
returns-clause-only c pid small spelled =
    only_after c.args.front.now c.args.words.now c.in_ok-rest_after.field-0.now (decimal pid.0) c.read_pid.result pid c.in_ok-rest_after.ensures (c.read_pid.ensures.only pid small) spelled
