use Rattle.std.proofs.Common.{◌≡◌, ◌++◌, take}
use Rattle.tx_json.specs.Each.{each_tokens}
use Rattle.tx_shell.specs.Blockers.{blocked_of}
use Rattle.tx_shell.specs.Members.{blocked_tokens}
use Rattle.tx_shell.proofs.answers.as_json.blockers.put_items.Given as goal

abbrev pub invariant-loop-i : goal.invariant-loop-i
invariant-loop-i l = l.writer ≡ l.initial.writer ++ each_tokens (λ b. blocked_tokens (blocked_of b)) (take l.i l.blockers)
