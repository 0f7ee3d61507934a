use Rattle.std.proofs.Common.{string_bytes}
use Rattle.tx_base.specs.Signals.{bits_of}
use Rattle.tx_lines.proofs.Known.{SetSoFar}
use Rattle.tx_lines.proofs.print.members.put_set.Given as goal

abbrev pub invariant-loop-i : goal.invariant-loop-i
invariant-loop-i l = SetSoFar (bits_of l.set) (string_bytes l.initial.text) (string_bytes l.text) l.some l.i
