use Rattle.tx_desc.proofs.Totals.{permuted}
use Rattle.tx_desc.proofs.laws.any_order.Goals as goal

pub returns : goal.returns
returns c = permuted
