use Rattle.std.proofs.Common.{◌+◌}
use Rattle.tx_base.specs.Slots.{slot_at}
use Rattle.tx_proc.specs.Parts.{process_in}
use Rattle.tx_json.specs.Processes.{process_item}
use Rattle.tx_json.specs.EachLaws.{upto_none, upto_more}
use Rattle.tx_json.proofs.processes.put_procs.Goals as goal

pub loop-done-init : goal.loop-done-init
loop-done-init c = upto_none (λ done. process_item (done + 1) (process_in (slot_at c.args.parts.now.procs (done + 1)))) c.begin_list.new.writer

pub loop-done-preserved : goal.loop-done-preserved
loop-done-preserved c =
    let line = rw c.proc.ensures at c.in_ok-put_slot.ensures in
    upto_more (λ done. process_item (done + 1) (process_in (slot_at c.args.parts.now.procs (done + 1)))) c.loop-done.done c.begin_list.new.writer c.loop-done.writer c.put_slot.new.writer c.loop-done.invariant line
