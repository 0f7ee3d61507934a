use Rattle.std.proofs.Common.{rules, ◌<◌, length, string_bytes}
use Rattle.std.proofs.lemmas.List.{get_or_read}
use Rattle.tx_model.specs.State.{Frame, first_registers}
use Rattle.tx_state_text.specs.Signals.{frame_text}
use Rattle.tx_state_text.proofs.OneMore.{each_more}
use Rattle.tx_state_text.proofs.signals.put_frames.Goals as goal

pub loop-i-preserved : goal.loop-i-preserved
loop-i-preserved c =
    let inside : c.loop-i.i < length c.args.frames.now = search rules in
    let none : Frame = record { registers = first_registers; mask = 0 } in
    let at = get_or_read c.args.frames.now c.loop-i.i _ inside c.index-frames-i.is none in
    let line = rw at at c.in_ok-put_frame.ensures in
    each_more frame_text c.args.frames.now c.loop-i.i none (string_bytes c.args.text.now) (string_bytes c.loop-i.text) (string_bytes c.put_frame.new.text) inside c.loop-i.invariant line
