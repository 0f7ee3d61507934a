use Rattle.tx_laws.proofs.Erased.{agrees}
use Rattle.tx_laws.proofs.agreement.Goals as goal

pub returns : goal.returns
returns c = agrees
