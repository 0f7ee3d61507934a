use Rattle.std.proofs.Common.{◌≡◌, ◌++◌, take}
use Rattle.tx_json.specs.Each.{each_tokens}
use Rattle.tx_json.specs.Lists.{number_item}
use Rattle.tx_json.proofs.lists.put_numbers.Given as goal

abbrev pub invariant-loop-i : goal.invariant-loop-i
invariant-loop-i l = l.writer ≡ l.initial.writer ++ each_tokens number_item (take l.i l.numbers)
