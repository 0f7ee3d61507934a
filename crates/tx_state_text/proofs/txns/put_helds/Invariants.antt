use Rattle.std.proofs.Common.{◌≡◌, ◌++◌, take, string_bytes}
use Rattle.tx_kernel.specs.Plans.{sending_of}
use Rattle.tx_state_text.specs.Each.{each_text}
use Rattle.tx_state_text.specs.Txns.{held_text}
use Rattle.tx_state_text.proofs.txns.put_helds.Given as goal

abbrev pub invariant-loop-i : goal.invariant-loop-i
invariant-loop-i l = string_bytes l.text ≡ string_bytes l.initial.text ++ each_text (λ m. held_text (sending_of m)) (take l.i l.sendings)
