use Rattle.std.proofs.Common.{◌≡◌, ◌+◌, ◌++◌, string_bytes}
use Rattle.tx_content.specs.Content.{view_of}
use Rattle.tx_model.specs.View.{present}
use Rattle.tx_state_text.specs.Each.{upto}
use Rattle.tx_base.specs.Slots.{slot_at}
use Rattle.tx_state_text.specs.Txns.{txn_lines}
use Rattle.tx_journal.proofs.state.put_txns.Given as goal

abbrev pub invariant-loop-done : goal.invariant-loop-done
invariant-loop-done l =
    string_bytes l.text ≡ string_bytes l.initial.text ++ upto (λ done. txn_lines l.width (slot_at l.machine.marks) (present (view_of l.machine)).held (done + 1)) l.done
