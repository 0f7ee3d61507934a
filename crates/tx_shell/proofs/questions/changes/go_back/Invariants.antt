use Rattle.tx_journal.specs.Sessions.{position_of}
use Rattle.tx_shell.proofs.Sought.{GoneBack}
use Rattle.tx_shell.proofs.questions.changes.go_back.Given as goal

abbrev pub invariant-loop-alloc : goal.invariant-loop-alloc
invariant-loop-alloc l = GoneBack l.initial.session l.session l.piece l.lines

abbrev pub decreases-loop-alloc : goal.decreases-loop-alloc
decreases-loop-alloc l = position_of l.session
