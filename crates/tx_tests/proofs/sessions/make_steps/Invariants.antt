use Rattle.tx_journal.specs.Sessions.{IsAtEnd}
use Rattle.tx_tests.proofs.sessions.make_steps.Given as goal

abbrev pub invariant-loop-i : goal.invariant-loop-i
invariant-loop-i l = IsAtEnd l.session
