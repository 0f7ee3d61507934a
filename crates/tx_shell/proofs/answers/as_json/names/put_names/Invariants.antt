use Rattle.std.proofs.Common.{◌≡◌, ◌++◌}
use Rattle.tx_json.specs.Each.{upto}
use Rattle.tx_shell.specs.Names.{named, named_item}
use Rattle.tx_shell.proofs.answers.as_json.names.put_names.Given as goal

abbrev pub invariant-loop-process : goal.invariant-loop-process
invariant-loop-process l = l.writer ≡ l.initial.writer ++ upto (λ q. named_item q (named l.names q)) l.process
