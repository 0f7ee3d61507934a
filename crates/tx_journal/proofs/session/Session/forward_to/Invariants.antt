use Rattle.std.proofs.Common.{◌≤◌, ◌-◌}
use Rattle.tx_journal.specs.Sessions.{SameJournal, position_of}
use Rattle.tx_journal.proofs.session.Session.forward_to.Given as goal

abbrev pub invariant-loop-alloc : goal.invariant-loop-alloc
invariant-loop-alloc l = record {
  journal : SameJournal l.self l.initial.self;
  low : position_of l.initial.self ≤ position_of l.self;
  high : position_of l.self ≤ l.position;
}

abbrev pub decreases-loop-alloc : goal.decreases-loop-alloc
decreases-loop-alloc l = l.position - position_of l.self
