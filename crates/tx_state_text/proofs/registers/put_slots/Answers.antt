use Rattle.std.proofs.Common.{rules, ◌<◌, length, string_bytes}
use Rattle.tx_state_text.specs.Registers.{slot_text}
use Rattle.tx_state_text.proofs.OneMore.{each_more}
use Rattle.tx_state_text.proofs.registers.put_slots.Goals as goal

pub loop-i-preserved : goal.loop-i-preserved
loop-i-preserved c =
    let inside : c.loop-i.i < length c.args.slots.now = search rules in
    each_more slot_text c.args.slots.now c.loop-i.i _ (string_bytes c.args.text.now) (string_bytes c.loop-i.text) (string_bytes c.put_slot.new.text) inside c.loop-i.invariant c.in_ok-put_slot.ensures
