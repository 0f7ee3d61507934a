use Rattle.std.proofs.Common.{string_bytes}
use Rattle.tx_script.proofs.RunLines.{EntriesSoFar}
use Rattle.tx_script.proofs.as_json.runs.put_entries.Given as goal

abbrev pub invariant-loop-i : goal.invariant-loop-i
invariant-loop-i l = EntriesSoFar l.entries (string_bytes l.initial.text) (string_bytes l.text) l.i
