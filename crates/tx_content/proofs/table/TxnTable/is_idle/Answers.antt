use Rattle.tx_content.proofs.LiveCounts.{idle_told}
use Rattle.tx_content.proofs.table.TxnTable.is_idle.Goals as goal

pub returns : goal.returns
returns c = rw (← c.self.view_is) (idle_told c.self.inside.slots c.self.inside.live c.self.invariant.count)
