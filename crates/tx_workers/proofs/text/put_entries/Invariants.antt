use Rattle.std.proofs.Common.{string_bytes}
use Rattle.tx_workers.proofs.NumberedLines.{NumberedSoFar}
use Rattle.tx_workers.specs.RunText.{entry_line}
use Rattle.tx_workers.proofs.text.put_entries.Given as goal

abbrev pub invariant-loop-i : goal.invariant-loop-i
invariant-loop-i l = NumberedSoFar entry_line l.session.entries (string_bytes l.initial.text) (string_bytes l.text) l.i
