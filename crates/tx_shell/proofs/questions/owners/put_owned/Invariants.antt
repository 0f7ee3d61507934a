use Rattle.std.proofs.Common.{string_bytes}
use Rattle.tx_content.specs.Content.{view_of}
use Rattle.tx_shell.proofs.Numbered.{NumberedTo}
use Rattle.tx_shell.specs.Names.{named}
use Rattle.tx_shell.specs.Owners.{number_said, owns_one}
use Rattle.tx_shell.proofs.questions.owners.put_owned.Given as goal

abbrev pub invariant-loop-number : goal.invariant-loop-number
invariant-loop-number l = NumberedTo (number_said (named l.names) l.kind) (owns_one (view_of l.machine) l.starter.0 l.kind) (string_bytes l.initial.text) (string_bytes l.text) l.some l.number
