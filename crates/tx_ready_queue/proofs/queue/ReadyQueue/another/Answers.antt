use Rattle.std.proofs.Common.{arith, ap, rules}
use Rattle.tx_ready_queue.specs.Hands.{keeps}
use Rattle.tx_ready_queue.specs.Stations.{Standing}
use Rattle.tx_ready_queue.proofs.Each.{begins_back, keeps_each}
use Rattle.tx_ready_queue.proofs.Moves.{forks}
use Rattle.tx_ready_queue.proofs.queue.ReadyQueue.another.Goals as goal

pub another-pass-requires-clause-rule : goal.another-pass-requires-clause-rule
another-pass-requires-clause-rule c = forks _ _ (omega (arith, ap (λ (s : Standing). s.hand.parts) c.station.view_is))

pub returns-clause-back : goal.returns-clause-back
returns-clause-back c = begins_back _ (search rules)

pub returns-clause-each : goal.returns-clause-each
returns-clause-each c = λ count each. keeps_each count c.args.station.now.hand _ (search rules) each
