use Rattle.std.proofs.Common.{ap, arith}
use Rattle.tx_ready_queue.specs.declared.rule.Hand.{Hand}
use Rattle.tx_ready_queue.proofs.Moves.{gives}
use Rattle.tx_ready_queue.proofs.queue.ReadyQueue.push.Goals as goal

pub try_push_as-requires-clause-rule : goal.try_push_as-requires-clause-rule
try_push_as-requires-clause-rule g c = gives _ _ _ _ (omega (arith, ap (λ (v : Hand). v.parts) c.loop.invariant.1, c.requires.part)) c.requires.number
