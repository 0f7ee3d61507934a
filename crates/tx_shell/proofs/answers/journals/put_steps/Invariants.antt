use Rattle.std.proofs.Common.{string_bytes}
use Rattle.tx_shell.proofs.Listed.{StepsSoFar}
use Rattle.tx_shell.proofs.answers.journals.put_steps.Given as goal

abbrev pub invariant-loop-entry : goal.invariant-loop-entry
invariant-loop-entry l = StepsSoFar l.entries (string_bytes l.initial.text) (string_bytes l.text) l.entry-index
