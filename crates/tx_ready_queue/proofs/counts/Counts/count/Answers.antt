use Rattle.std.proofs.Common.{arith}
use Rattle.tx_ready_queue.proofs.Counting.{counts_one}
use Rattle.tx_ready_queue.proofs.counts.Counts.count.Goals as goal

pub returns : goal.returns
returns c = λ list has. counts_one _ list _ _ (omega (arith, c.requires.number.0)) c.requires.number has
