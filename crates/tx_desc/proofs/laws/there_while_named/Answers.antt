use Rattle.tx_desc.proofs.Totals.{there_named}
use Rattle.tx_desc.proofs.laws.there_while_named.Goals as goal

pub returns : goal.returns
returns c = there_named
