use Rattle.std.proofs.Common.{◌≡◌, ◌-◌, ◌≤◌, take, length}
use Rattle.tx_model.specs.Memory.{bytes_from}
use Rattle.tx_pages.proofs.space.Space.copy_out.Given as goal

abbrev pub invariant-loop-done : goal.invariant-loop-done
invariant-loop-done l = record {
  same : take l.done l.out ≡ bytes_from l.self l.start l.done;
  few : l.done ≤ length l.out;
  sized : length l.out ≡ length l.fn.out;
}

abbrev pub decreases-loop-done : goal.decreases-loop-done
decreases-loop-done l = length l.out - l.done
