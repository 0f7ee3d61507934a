use Rattle.tx_ready_queue.proofs.Counting.{tallies}
use Rattle.tx_ready_queue.proofs.Each.{leaves_each}
use Rattle.tx_ready_queue.proofs.queue.ReadyQueue.close.Goals as goal

pub returns-clause-tally : goal.returns-clause-tally
returns-clause-tally g c = rw (← c.station.view_is) (tallies _ _ c.station.invariant.pushes c.station.invariant.pops c.drain.ensures)

pub returns-clause-each : goal.returns-clause-each
returns-clause-each g c = λ count most each. leaves_each _ _ count most (returns-clause-tally g c) each
