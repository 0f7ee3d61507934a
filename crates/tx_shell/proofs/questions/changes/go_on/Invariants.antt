use Rattle.std.proofs.Common.{◌-◌, length}
use Rattle.tx_journal.specs.Sessions.{position_of}
use Rattle.tx_shell.proofs.Sought.{GoneOn}
use Rattle.tx_shell.proofs.questions.changes.go_on.Given as goal

abbrev pub invariant-loop-alloc : goal.invariant-loop-alloc
invariant-loop-alloc l = GoneOn l.initial.session l.session l.piece l.lines

abbrev pub decreases-loop-alloc : goal.decreases-loop-alloc
decreases-loop-alloc l = length l.session.entries - position_of l.session
