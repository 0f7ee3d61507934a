use Rattle.std.proofs.Common.{◌≡◌, ◌+◌, ◌++◌, string_bytes}
use Rattle.tx_content.specs.Content.{view_of}
use Rattle.tx_shell.specs.Names.{named}
use Rattle.tx_shell.specs.Owners.{owner_line}
use Rattle.tx_state_text.specs.Each.{upto}
use Rattle.tx_shell.proofs.questions.owners.put_owners.Given as goal

abbrev pub invariant-loop-done : goal.invariant-loop-done
invariant-loop-done l = string_bytes l.text ≡ string_bytes l.initial.text ++ upto (λ done. owner_line (named l.names) (view_of l.machine) (done + 1)) l.done
