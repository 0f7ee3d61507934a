use Rattle.std.proofs.Common.{◌≡◌, ◌+◌, ◌++◌, string_bytes}
use Rattle.tx_base.specs.Slots.{slot_at}
use Rattle.tx_state_text.specs.Each.{upto}
use Rattle.tx_proc.specs.Parts.{process_in}
use Rattle.tx_state_text.specs.Processes.{process_lines}
use Rattle.tx_state_text.proofs.processes.put_procs.Given as goal

abbrev pub invariant-loop-done : goal.invariant-loop-done
invariant-loop-done l = string_bytes l.text ≡ string_bytes l.initial.text ++ upto (λ done. process_lines (done + 1) (process_in (slot_at l.parts.procs (done + 1)))) l.done
