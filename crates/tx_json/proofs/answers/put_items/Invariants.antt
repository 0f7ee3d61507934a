use Rattle.std.proofs.Common.{◌≡◌, ◌++◌, take}
use Rattle.tx_json.specs.Answers.{line_item}
use Rattle.tx_json.specs.Each.{each_tokens}
use Rattle.tx_json.proofs.answers.put_items.Given as goal

abbrev pub invariant-loop-i : goal.invariant-loop-i
invariant-loop-i l = l.writer ≡ l.initial.writer ++ each_tokens (λ line. line_item line.now) (take l.i l.lines)
