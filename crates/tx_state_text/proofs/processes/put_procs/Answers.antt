use Rattle.std.proofs.Common.{◌+◌, string_bytes}
use Rattle.tx_base.specs.Slots.{slot_at}
use Rattle.tx_proc.specs.Parts.{process_in}
use Rattle.tx_state_text.specs.Processes.{process_lines}
use Rattle.tx_state_text.specs.EachLaws.{upto_none, upto_more}
use Rattle.tx_state_text.proofs.processes.put_procs.Goals as goal

pub loop-done-init : goal.loop-done-init
loop-done-init c = upto_none (λ done. process_lines (done + 1) (process_in (slot_at c.args.parts.now.procs (done + 1)))) (string_bytes c.args.text.now)

pub loop-done-preserved : goal.loop-done-preserved
loop-done-preserved c =
    let lines = rw c.proc.ensures at c.in_ok-put_slot_lines.ensures in
    upto_more (λ done. process_lines (done + 1) (process_in (slot_at c.args.parts.now.procs (done + 1)))) c.loop-done.done (string_bytes c.args.text.now) (string_bytes c.loop-done.text) (string_bytes c.put_slot_lines.new.text) c.loop-done.invariant lines
