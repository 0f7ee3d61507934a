use Rattle.std.proofs.Common.{◌≡◌, ◌≤◌}
use Rattle.tx_journal.specs.Sessions.{SameJournal, position_of}
use Rattle.tx_journal.proofs.session.Session.back_to.Given as goal

abbrev pub invariant-loop-self : goal.invariant-loop-self
invariant-loop-self l = record {
  journal : SameJournal l.self l.initial.self;
  moved : l.position ≤ position_of l.initial.self → l.position ≤ position_of l.self;
  stayed : position_of l.initial.self ≤ l.position → position_of l.self ≡ position_of l.initial.self;
}

abbrev pub decreases-loop-self : goal.decreases-loop-self
decreases-loop-self l = position_of l.self
