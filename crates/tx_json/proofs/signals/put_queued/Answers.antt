use Rattle.std.proofs.Common.{rules, ◌<◌, length, pos}
use Rattle.std.proofs.lemmas.List.{get_or_read}
use Rattle.tx_json.specs.EachLaws.{each_more}
use Rattle.tx_json.specs.Signals.{entry_item}
use Rattle.tx_model.specs.State.{Queued}
use Rattle.tx_json.proofs.signals.put_queued.Goals as goal

pub loop-i-preserved : goal.loop-i-preserved
loop-i-preserved c =
    let inside : c.loop-i.i < length c.args.entries.now = search rules in
    let none : Queued = record { signo = 0; value = pos 0 } in
    let at = get_or_read c.args.entries.now c.loop-i.i _ inside c.index-entries-i.is none in
    let item = rw at at c.in_ok-put_entry.ensures in
    each_more entry_item c.args.entries.now c.loop-i.i none c.begin_list.new.writer c.loop-i.writer c.put_entry.new.writer inside c.loop-i.invariant item
