use Rattle.std.proofs.Common.{◌++◌, List, length}
use Rattle.tx_workers.specs.Runs.{AreNoted}
use Rattle.tx_workers.specs.declared.worker.Worker.{Worker}
use Rattle.tx_workers.proofs.results.workers_of.Given as goal

-- where workers are what those that are left were, all are
abbrev pub invariant-loop-runner : goal.invariant-loop-runner
invariant-loop-runner l = (more : List Worker) → AreNoted l.added l.left more → AreNoted l.added l.runners (l.workers.items ++ more)

abbrev pub decreases-loop-runner : goal.decreases-loop-runner
decreases-loop-runner l = length l.left
