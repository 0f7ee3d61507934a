use Rattle.tx_proc.proofs.Twice.{nothing_else}
use Rattle.tx_proc.proofs.laws.nothing_else.Goals as goal

pub returns : goal.returns
returns c = nothing_else
