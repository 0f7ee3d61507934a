use Rattle.std.proofs.Common.{◌≡◌, ◌+◌, ◌++◌}
use Rattle.tx_base.specs.Slots.{slot_at}
use Rattle.tx_json.specs.Each.{upto}
use Rattle.tx_json.specs.Txns.{mark_item}
use Rattle.tx_content.specs.Content.{view_of}
use Rattle.tx_model.specs.View.{present}
use Rattle.tx_json.proofs.state.put_txns.Given as goal

abbrev pub invariant-loop-done : goal.invariant-loop-done
invariant-loop-done l =
    l.writer ≡ l.initial.writer ++ upto (λ done. mark_item l.width (slot_at l.machine.marks) (done + 1) ((present (view_of l.machine)).held (done + 1)) (slot_at l.machine.marks (done + 1))) l.done
