use Rattle.std.proofs.Common.{◌≡◌, false}
use Rattle.tx_shell.specs.Names.{has_name, named}
use Rattle.tx_shell.proofs.answers.as_json.names.has_name.Given as goal

abbrev pub invariant-loop-process : goal.invariant-loop-process
invariant-loop-process l = has_name (named l.names) l.process ≡ false
