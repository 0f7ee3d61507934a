use Rattle.tx_shell.proofs.AfterFront.{only_after}
use Rattle.tx_shell.specs.Pieces.{two_text}
use Rattle.tx_shell.proofs.lines.pieces.pid_byte_after.Goals as goal

pub returns-clause-only : goal.returns-clause-only
returns-clause-only c pid byte small other spelled =
    only_after c.args.front.now c.args.words.now c.in_ok-rest_after.field-0.now (two_text pid.0 byte) c.read_pid_byte.result (pid, byte) c.in_ok-rest_after.ensures (c.read_pid_byte.ensures.only pid byte small other) spelled
