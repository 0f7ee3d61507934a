use Rattle.std.proofs.Common.{length, string_bytes}
use Rattle.tx_shell.specs.Standings.{standing_of}
use Rattle.tx_answers.proofs.ServedSoFar.{ServedSoFar}
use Rattle.tx_answers.proofs.sessions.serve_text.Given as goal

abbrev pub invariant-loop-left : goal.invariant-loop-left
invariant-loop-left l = ServedSoFar l.fn.form l.fn.text (standing_of l.shell) l.left (string_bytes l.answers)

abbrev pub decreases-loop-left : goal.decreases-loop-left
decreases-loop-left l = length l.left
