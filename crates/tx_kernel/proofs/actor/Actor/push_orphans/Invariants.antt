use Rattle.std.proofs.Common.{◌≡◌, ◌≤◌, ◌+◌, ◌++◌, length}
use Rattle.tx_kernel.specs.Endings.{orphan_changes, plain}
use Rattle.tx_kernel.specs.Plans.{Extends}
use Rattle.tx_model.specs.Processes.{children_below}
use Rattle.tx_kernel.proofs.actor.Actor.push_orphans.Given as goal

abbrev pub invariant-loop-below : goal.invariant-loop-below
invariant-loop-below l = record {
  added : l.log ++ orphan_changes (children_below l.self.pid.0 (l.below + 1) (plain l.self.parts.now))
      ≡ l.initial.log ++ orphan_changes (children_below l.self.pid.0 (length l.self.parts.now.procs + 1) (plain l.self.parts.now));
  extends : Extends l.initial.log l.log;
  few : l.below ≤ length l.self.parts.now.procs;
}
