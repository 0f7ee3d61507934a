use Rattle.std.proofs.Common.{◌≡◌, ◌++◌, take}
use Rattle.tx_json.specs.Each.{each_tokens}
use Rattle.tx_json.specs.Replies.{missed_tokens}
use Rattle.tx_json.proofs.replies.put_undelivered.Given as goal

abbrev pub invariant-loop-i : goal.invariant-loop-i
invariant-loop-i l = l.writer ≡ l.initial.writer ++ each_tokens missed_tokens (take l.i l.undelivered)
