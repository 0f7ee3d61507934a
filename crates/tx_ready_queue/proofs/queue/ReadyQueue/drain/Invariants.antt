use Rattle.std.proofs.Common.{ℕ, List}
use Rattle.crossbeam_queue.specs.Passes.{view, IsPassOf}
use Rattle.tx_ready_queue.proofs.Drains.{Drains}
use Rattle.tx_ready_queue.proofs.queue.ReadyQueue.drain.Given as goal

abbrev pub invariant-loop : goal.invariant-loop
invariant-loop g l = IsPassOf l.self.ring l.pass × (drained : List ℕ) × Drains (view l.initial.pass) (view l.pass) l.left.by_place drained
