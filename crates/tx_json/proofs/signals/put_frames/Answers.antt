use Rattle.std.proofs.Common.{rules, ◌<◌, length}
use Rattle.std.proofs.lemmas.List.{get_or_read}
use Rattle.tx_json.specs.EachLaws.{each_more}
use Rattle.tx_json.specs.Signals.{frame_item}
use Rattle.tx_model.specs.State.{Frame, first_registers}
use Rattle.tx_json.proofs.signals.put_frames.Goals as goal

pub loop-i-preserved : goal.loop-i-preserved
loop-i-preserved c =
    let inside : c.loop-i.i < length c.args.frames.now = search rules in
    let none : Frame = record { registers = first_registers; mask = 0 } in
    let at = get_or_read c.args.frames.now c.loop-i.i _ inside c.index-frames-i.is none in
    let item = rw at at c.in_ok-put_frame.ensures in
    each_more frame_item c.args.frames.now c.loop-i.i none c.begin_list.new.writer c.loop-i.writer c.put_frame.new.writer inside c.loop-i.invariant item
