use Rattle.std.proofs.Common.{◌≡◌, ◌++◌, string_bytes, take}
use Rattle.tx_shell.specs.Blockers.{blocked_of}
use Rattle.tx_shell.specs.Names.{named}
use Rattle.tx_shell.specs.Reasons.{blocked_line}
use Rattle.tx_state_text.specs.Each.{each_text}
use Rattle.tx_shell.proofs.questions.blockers.put_objects.Given as goal

abbrev pub invariant-loop-i : goal.invariant-loop-i
invariant-loop-i l = string_bytes l.text ≡ string_bytes l.initial.text ++ each_text (λ b. blocked_line (named l.names) (blocked_of b)) (take l.i l.blockers)
