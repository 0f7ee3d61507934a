use Rattle.std.proofs.Common.{◌≡◌, ◌++◌, take}
use Rattle.tx_json.specs.Each.{each_tokens}
use Rattle.tx_json.specs.Txns.{held_item}
use Rattle.tx_kernel.specs.Plans.{sending_of}
use Rattle.tx_json.proofs.txns.put_sends.Given as goal

abbrev pub invariant-loop-i : goal.invariant-loop-i
invariant-loop-i l = l.writer ≡ l.initial.writer ++ each_tokens (λ m. held_item (sending_of m)) (take l.i l.sendings)
