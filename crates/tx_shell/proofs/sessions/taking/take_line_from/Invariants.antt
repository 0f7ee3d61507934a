use Rattle.std.proofs.Common.{◌≤◌, length}
use Rattle.tx_shell.proofs.CutLines.{SoFar}
use Rattle.tx_shell.proofs.sessions.taking.take_line_from.Given as goal

abbrev pub invariant-loop-turn : goal.invariant-loop-turn
invariant-loop-turn g l = (length l.line.items ≤ 514) × SoFar (g.R.Read.remaining l.initial.reader) (g.R.Read.remaining l.reader) l.initial.line.items l.line.items
