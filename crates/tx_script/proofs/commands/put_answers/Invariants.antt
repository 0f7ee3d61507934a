use Rattle.std.proofs.Common.{drop, string_bytes}
use Rattle.tx_script.proofs.Walked.{CommandsSoFar}
use Rattle.tx_script.specs.JsonLines.{written_in}
use Rattle.tx_script.proofs.commands.put_answers.Given as goal

abbrev pub invariant-loop-command : goal.invariant-loop-command
invariant-loop-command l = CommandsSoFar (written_in l.form) l.initial.session l.session l.commands (drop l.command-index l.commands) (string_bytes l.initial.text) (string_bytes l.text)
