use Rattle.tx_laws.proofs.Erased.{erased}
use Rattle.tx_laws.proofs.erasure.Goals as goal

pub returns : goal.returns
returns c = erased
