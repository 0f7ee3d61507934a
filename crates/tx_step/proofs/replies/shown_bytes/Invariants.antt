use Rattle.std.proofs.Common.{◌≡◌, ◌≤◌, ◌+◌, ◌-◌, ◌++◌, length}
use Rattle.std.specs.Option.{option_copied}
use Rattle.tx_kernel.specs.Plans.{memory_in}
use Rattle.tx_model.specs.Memory.{bytes_from}
use Rattle.tx_proc.specs.Parts.{process_in}
use Rattle.tx_step.proofs.replies.shown_bytes.Given as goal

abbrev pub invariant-loop-done : goal.invariant-loop-done
invariant-loop-done l = record {
  bytes : l.bytes.items ++ bytes_from (memory_in (process_in (option_copied l.proc))) (l.start + l.done) (l.shown.count - l.done)
      ≡ bytes_from (memory_in (process_in (option_copied l.proc))) l.start l.shown.count;
  long : length l.bytes.items ≡ l.done;
  few : l.done ≤ l.shown.count;
  low : l.start ≤ 1024;
}

abbrev pub decreases-loop-done : goal.decreases-loop-done
decreases-loop-done l = l.shown.count - l.done
