use Rattle.std.proofs.Common.{string_bytes}
use Rattle.tx_shell.proofs.LeftOver.{LeftSoFar, spelled}
use Rattle.tx_shell.proofs.questions.differences.put_left_over.Given as goal

abbrev pub invariant-loop-line : goal.invariant-loop-line
invariant-loop-line l = LeftSoFar l.mark l.lines (spelled l.initial.others.items) (string_bytes l.initial.text) (string_bytes l.text) (spelled l.others.items) l.line-index
