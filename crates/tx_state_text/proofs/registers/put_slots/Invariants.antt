use Rattle.std.proofs.Common.{◌≡◌, ◌++◌, take, string_bytes}
use Rattle.tx_state_text.specs.Each.{each_text}
use Rattle.tx_state_text.specs.Registers.{slot_text}
use Rattle.tx_state_text.proofs.registers.put_slots.Given as goal

abbrev pub invariant-loop-i : goal.invariant-loop-i
invariant-loop-i l = string_bytes l.text ≡ string_bytes l.initial.text ++ each_text slot_text (take l.i l.slots)
