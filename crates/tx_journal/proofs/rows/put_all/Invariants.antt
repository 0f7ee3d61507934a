use Rattle.std.proofs.Common.{◌≡◌, ◌++◌}
use Rattle.tx_journal.specs.Rows.{first_pieces}
use Rattle.tx_journal.proofs.rows.put_all.Given as goal

abbrev pub invariant-loop-number : goal.invariant-loop-number
invariant-loop-number l = l.found.items ≡ l.initial.found.items ++ first_pieces l.row l.number
