use Rattle.std.proofs.Common.{string_bytes}
use Rattle.tx_shell.proofs.Listed.{ListedSoFar}
use Rattle.tx_shell.specs.Journals.{listed_between}
use Rattle.tx_shell.proofs.answers.journals.put_entries.Given as goal

abbrev pub invariant-loop-i : goal.invariant-loop-i
invariant-loop-i l = ListedSoFar (listed_between l.position l.first l.last) l.entries (string_bytes l.initial.text) (string_bytes l.text) l.i
