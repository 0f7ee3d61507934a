use Rattle.std.proofs.Common.{◌≡◌}
use Rattle.crossbeam_queue.specs.Passes.{view, IsPassOf}
use Rattle.tx_ready_queue.proofs.queue.ReadyQueue.push.Given as goal

abbrev pub invariant-loop : goal.invariant-loop
invariant-loop g l = IsPassOf l.self.ring l.pass × (view l.pass ≡ view l.initial.pass)
