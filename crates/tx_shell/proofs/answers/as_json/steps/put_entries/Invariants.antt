use Rattle.tx_shell.proofs.Listed.{ListedSoFar}
use Rattle.tx_shell.specs.Members.{tokens_between}
use Rattle.tx_shell.proofs.answers.as_json.steps.put_entries.Given as goal

abbrev pub invariant-loop-i : goal.invariant-loop-i
invariant-loop-i l = ListedSoFar (tokens_between l.first l.last) l.entries l.initial.writer l.writer l.i
