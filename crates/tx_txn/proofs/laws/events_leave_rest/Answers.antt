use Rattle.tx_txn.proofs.Owned.{made_rest}
use Rattle.tx_txn.proofs.laws.events_leave_rest.Goals as goal

pub returns : goal.returns
returns c = made_rest c.role_laws.ensures
