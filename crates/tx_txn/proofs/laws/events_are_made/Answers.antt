use Rattle.tx_txn.proofs.OfEvents.{event_made, event_logged}
use Rattle.tx_txn.proofs.laws.events_are_made.Goals as goal

pub returns-clause-state : goal.returns-clause-state
returns-clause-state c = event_made

pub returns-clause-logged : goal.returns-clause-logged
returns-clause-logged c = event_logged c.log_laws.ensures
