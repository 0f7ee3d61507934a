use Rattle.std.proofs.Common.{arith}
use Rattle.tx_workers.proofs.turns.turn.Goals as goal

pub next_process-requires-clause-top : goal.next_process-requires-clause-top
next_process-requires-clause-top c = λ n over there. absurd (omega (arith, over, there, c.processes-top.ensures.table))
