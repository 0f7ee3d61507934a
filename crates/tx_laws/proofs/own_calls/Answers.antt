use Rattle.tx_laws.proofs.OwnPages.{own_stays}
use Rattle.tx_laws.proofs.own_calls.Goals as goal

pub returns : goal.returns
returns c = own_stays
