use Rattle.std.proofs.Common.{◌≡◌, ◌++◌, take}
use Rattle.tx_json.specs.Each.{each_tokens}
use Rattle.tx_json.specs.Holders.{holder_tokens}
use Rattle.tx_json.proofs.holders.put_holder_list.Given as goal

abbrev pub invariant-loop-i : goal.invariant-loop-i
invariant-loop-i l = l.writer ≡ l.initial.writer ++ each_tokens holder_tokens (take l.i l.holders)
