use Rattle.tx_pipe.proofs.Twice.{back_twice}
use Rattle.tx_pipe.proofs.laws.back_twice.Goals as goal

pub returns : goal.returns
returns c = back_twice
