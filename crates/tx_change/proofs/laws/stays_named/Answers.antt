use Rattle.tx_change.proofs.Applied.{AreWithin-exchanged}
use Rattle.tx_change.proofs.laws.stays_named.Goals as goal

pub returns : goal.returns
returns c = AreWithin-exchanged
