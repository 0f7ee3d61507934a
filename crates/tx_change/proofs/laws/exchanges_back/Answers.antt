use Rattle.tx_change.proofs.Twice.{back}
use Rattle.tx_change.proofs.laws.exchanges_back.Goals as goal

pub returns : goal.returns
returns c = back c.part_laws.ensures
