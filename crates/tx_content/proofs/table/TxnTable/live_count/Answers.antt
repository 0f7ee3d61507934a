use Rattle.std.proofs.Common.{ap, arith, ◌∙◌}
use Rattle.tx_content.proofs.LiveCounts.{count_fits}
use Rattle.tx_content.specs.Tables.{live_count}
use Rattle.tx_content.proofs.table.TxnTable.live_count.Goals as goal

pub returns-clause-count : goal.returns-clause-count
returns-clause-count c = c.self.invariant.count ∙ ap live_count c.self.view_is

pub returns-clause-few : goal.returns-clause-few
returns-clause-few c =
    let count = c.self.invariant.count in
    let fits = count_fits c.self.inside.slots in
    rw (← c.self.view_is) (omega (arith, count, fits))
