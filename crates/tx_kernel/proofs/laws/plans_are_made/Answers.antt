use Rattle.tx_kernel.proofs.Made.{made}
use Rattle.tx_kernel.proofs.laws.plans_are_made.Goals as goal

pub returns : goal.returns
returns c = made c.laws.ensures
