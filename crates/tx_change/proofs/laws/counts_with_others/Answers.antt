use Rattle.tx_change.proofs.Counted.{counts_with_others}
use Rattle.tx_change.proofs.laws.counts_with_others.Goals as goal

pub returns : goal.returns
returns c = counts_with_others
