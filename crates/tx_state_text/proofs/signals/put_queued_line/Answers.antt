use Rattle.std.proofs.Common.{rules, ◌<◌, length, string_bytes, pos}
use Rattle.std.proofs.lemmas.List.{get_or_read}
use Rattle.tx_model.specs.State.{Queued}
use Rattle.tx_state_text.specs.Signals.{entry_text}
use Rattle.tx_state_text.proofs.OneMore.{each_more}
use Rattle.tx_state_text.proofs.signals.put_queued_line.Goals as goal

pub loop-i-preserved : goal.loop-i-preserved
loop-i-preserved c =
    let inside : c.loop-i.i < length c.args.entries.now = search rules in
    let none : Queued = record { signo = 0; value = pos 0 } in
    let at = get_or_read c.args.entries.now c.loop-i.i _ inside c.index-entries-i.is none in
    let line = rw at at c.in_ok-put_entry.ensures in
    each_more entry_text c.args.entries.now c.loop-i.i none (string_bytes c.put.new.text) (string_bytes c.loop-i.text) (string_bytes c.put_entry.new.text) inside c.loop-i.invariant line
