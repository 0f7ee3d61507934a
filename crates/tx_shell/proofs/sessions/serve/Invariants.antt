use Rattle.tx_shell.proofs.Served.{ServedSoFar}
use Rattle.tx_shell.specs.Standings.{standing_of}
use Rattle.tx_shell.proofs.sessions.serve.Given as goal

abbrev pub invariant-loop-number : goal.invariant-loop-number
invariant-loop-number g l = ServedSoFar (standing_of l.initial.shell) (standing_of l.shell) (g.T.Terminal.traffic l.initial.terminal) (g.T.Terminal.traffic l.terminal) l.number
