use Rattle.std.proofs.Common.{string_bytes}
use Rattle.tx_shell.proofs.Differed.{DifferSoFar}
use Rattle.tx_shell.proofs.questions.differences.put_all_differing.Given as goal

abbrev pub invariant-loop-i : goal.invariant-loop-i
invariant-loop-i l = DifferSoFar string_bytes l.before l.after (string_bytes l.initial.text) (string_bytes l.text) l.i
