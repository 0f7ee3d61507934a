use Rattle.std.proofs.Common.{ℕ, length, length-append, ap, arith, ◌∙◌}
use Rattle.tx_ready_queue.specs.Hands.{puts}
use Rattle.tx_ready_queue.specs.Stations.{Standing}
use Rattle.tx_ready_queue.proofs.Each.{turns_back}
use Rattle.tx_ready_queue.proofs.queue.ReadyQueue.give.Goals as goal

pub invariant_of-station : goal.invariant_of-station
invariant_of-station g c = rw c.push.ensures.put (record {
  part = c.station.invariant.part;
  back = c.push.ensures.queue.1;
  short = omega (arith, length-append {A = ℕ}, ap (λ (s : Standing). length s.hand.put) c.station.view_is, c.requires.room);
  pushes = c.count.ensures _ c.station.invariant.pushes;
  pops = c.station.invariant.pops;
})

pub returns-clause-back : goal.returns-clause-back
returns-clause-back g c = λ held back took.
    turns_back held c.args.station.now.hand _ _ took (c.push.ensures.put ∙ ap (λ (s : Standing). puts s.hand c.args.pid.0) c.station.view_is) back
