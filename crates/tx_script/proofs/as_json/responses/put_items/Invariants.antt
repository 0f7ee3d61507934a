use Rattle.std.proofs.Common.{◌≡◌, ◌++◌, drop}
use Rattle.tx_json.specs.Each.{each_tokens}
use Rattle.tx_json.specs.Lists.{count_item}
use Rattle.tx_script.proofs.as_json.responses.put_items.Given as goal

abbrev pub invariant-loop-number : goal.invariant-loop-number
invariant-loop-number l = l.writer ++ each_tokens count_item (drop l.number-index l.numbers) ≡ l.initial.writer ++ each_tokens count_item l.numbers
