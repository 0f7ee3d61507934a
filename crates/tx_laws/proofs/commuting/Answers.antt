use Rattle.tx_laws.proofs.Commutes.{after_apart, reply_apart}
use Rattle.tx_laws.proofs.commuting.Goals as goal

pub returns-clause-state : goal.returns-clause-state
returns-clause-state c = after_apart

pub returns-clause-reply : goal.returns-clause-reply
returns-clause-reply c = reply_apart
