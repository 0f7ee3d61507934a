use Rattle.std.proofs.Common.{◌≡◌, ◌++◌, ◌+◌}
use Rattle.tx_json.specs.Each.{upto}
use Rattle.tx_base.specs.Slots.{slot_at}
use Rattle.tx_proc.specs.Parts.{process_in}
use Rattle.tx_json.specs.Processes.{process_item}
use Rattle.tx_json.proofs.processes.put_procs.Given as goal

abbrev pub invariant-loop-done : goal.invariant-loop-done
invariant-loop-done l = l.writer ≡ l.initial.writer ++ upto (λ done. process_item (done + 1) (process_in (slot_at l.parts.procs (done + 1)))) l.done
