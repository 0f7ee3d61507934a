use Rattle.std.proofs.Common.{refl}
use Rattle.tx_ready_queue.proofs.Counting.{counts_none}
use Rattle.tx_ready_queue.proofs.counts.Counts.none.Goals as goal

pub returns : goal.returns
returns c = counts_none 256 refl
