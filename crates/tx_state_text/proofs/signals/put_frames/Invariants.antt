use Rattle.std.proofs.Common.{◌≡◌, ◌++◌, take, string_bytes}
use Rattle.tx_state_text.specs.Each.{each_text}
use Rattle.tx_state_text.specs.Signals.{frame_text}
use Rattle.tx_state_text.proofs.signals.put_frames.Given as goal

abbrev pub invariant-loop-i : goal.invariant-loop-i
invariant-loop-i l = string_bytes l.text ≡ string_bytes l.initial.text ++ each_text frame_text (take l.i l.frames)
