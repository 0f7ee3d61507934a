use Rattle.tx_proc.proofs.Twice.{commute}
use Rattle.tx_proc.proofs.laws.commute.Goals as goal

pub returns : goal.returns
returns c = commute
