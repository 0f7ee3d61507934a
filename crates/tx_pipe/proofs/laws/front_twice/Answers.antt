use Rattle.tx_pipe.proofs.Twice.{front_twice}
use Rattle.tx_pipe.proofs.laws.front_twice.Goals as goal

pub returns : goal.returns
returns c = front_twice
