use Rattle.std.proofs.Common.{string_bytes}
use Rattle.std.proofs.lemmas.Result.{on_ok_weaker}
use Rattle.tx_journal.proofs.StateSpelled.{state_spelled}
use Rattle.tx_journal.proofs.state.put_state.Goals as goal

pub returns : goal.returns
returns c =
    on_ok_weaker c.put_txns.result
    (λ txns. state_spelled c.args.machine.now c.parts-parts.result.now c.processes-width.result (string_bytes c.args.text.now) (string_bytes c.put.new.text) (string_bytes c.put_procs.new.text) (string_bytes c.put_descs.new.text) (string_bytes c.put_pipes.new.text) (string_bytes c.put_txns.new.text)
    c.parts-parts.ensures.parts c.parts-parts.ensures.state c.processes-width.ensures.procs c.processes-width.ensures.table c.in_ok-put.ensures c.in_ok-put_procs.ensures c.in_ok-put_descs.ensures c.in_ok-put_pipes.ensures txns)
    c.put_txns.ensures
