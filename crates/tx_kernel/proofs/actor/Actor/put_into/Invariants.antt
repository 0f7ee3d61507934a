use Rattle.std.proofs.Common.{◌≡◌, ◌≤◌, ◌+◌, ◌-◌, ◌++◌, length}
use Rattle.tx_kernel.specs.Actors.{me_of}
use Rattle.tx_model.specs.Memory.{bytes_from}
use Rattle.tx_kernel.proofs.actor.Actor.put_into.Given as goal

abbrev pub invariant-loop-done : goal.invariant-loop-done
invariant-loop-done l = record {
  bytes : l.boxed ++ bytes_from (me_of l.self).memory (l.start + l.done) (l.n - l.done)
      ≡ l.fn.boxed ++ bytes_from (me_of l.self).memory l.start l.n;
  long : length l.boxed ≡ length l.fn.boxed + l.done;
  few : l.done ≤ l.n;
}

abbrev pub decreases-loop-done : goal.decreases-loop-done
decreases-loop-done l = l.n - l.done
