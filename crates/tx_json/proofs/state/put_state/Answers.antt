use Rattle.std.proofs.lemmas.Result.{on_ok_weaker}
use Rattle.tx_json.proofs.StateAppended.{four_appended, state_appended}
use Rattle.tx_json.proofs.state.put_state.Goals as goal

pub returns : goal.returns
returns c =
    on_ok_weaker c.end_object.result
    (λ ended. state_appended c.args.machine.now c.parts-parts.result.now c.processes-width.result c.args.writer.now c.end_object.new.writer
    c.parts-parts.ensures.parts c.parts-parts.ensures.state c.processes-width.ensures.procs c.processes-width.ensures.table
    (four_appended c.args.writer.now c.begin_object.new.writer c.put_parts.new.writer c.put_txns.new.writer c.end_object.new.writer _ _ _ _
    c.in_ok-begin_object.ensures c.in_ok-put_parts.ensures c.in_ok-put_txns.ensures ended))
    c.end_object.ensures
