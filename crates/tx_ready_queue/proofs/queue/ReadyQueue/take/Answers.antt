use Rattle.std.proofs.Common.{◌∙◌}
use Rattle.tx_ready_queue.proofs.Moves.{gets, learns}
use Rattle.tx_ready_queue.proofs.queue.ReadyQueue.take.Goals as goal

pub pop_as-requires-clause-rule : goal.pop_as-requires-clause-rule
pop_as-requires-clause-rule g c = (gets _ _ c.station.invariant.part, learns _ _)

pub invariant_of-station-2 : goal.invariant_of-station-2
invariant_of-station-2 g c = rw c.in_ok-number.ensures.rule.0 (record {
  part = c.station.invariant.part;
  back = c.pop_as.ensures.queue.2 ∙ c.station.invariant.back;
  short = c.station.invariant.short;
  pushes = c.station.invariant.pushes;
  pops = c.count.ensures _ c.station.invariant.pops;
})
