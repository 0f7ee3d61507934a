use Rattle.std.proofs.Common.{ℕ, length, length-append, ap, arith, rules, ◌∙◌}
use Rattle.tx_ready_queue.specs.Stations.{Standing}
use Rattle.tx_ready_queue.proofs.Each.{both_each}
use Rattle.tx_ready_queue.proofs.Moves.{merges}
use Rattle.tx_ready_queue.proofs.queue.ReadyQueue.merge.Goals as goal

pub absorb-requires-clause-rule : goal.absorb-requires-clause-rule
absorb-requires-clause-rule c = merges _ _ _ _ c.station.invariant.part

pub invariant_of-station : goal.invariant_of-station
invariant_of-station c = rw c.absorb.ensures.rule (record {
  part = omega (arith, c.station.invariant.part);
  back = c.absorb.ensures.queue.2 ∙ c.station.invariant.back;
  short = omega (arith, length-append {A = ℕ}, ap (λ (s : Standing). length s.hand.put) c.station.view_is, ap (λ (s : Standing). length s.hand.put) c.other.view_is, c.requires.put_room);
  pushes = c.add.ensures _ _ c.station.invariant.pushes c.other.invariant.pushes;
  pops = c.add-2.ensures _ _ c.station.invariant.pops c.other.invariant.pops;
})

pub returns-clause-each : goal.returns-clause-each
returns-clause-each c = λ count each back. both_each count c.args.station.now.hand c.args.other.hand _ (search rules) each back
