use Rattle.std.proofs.Common.{is_some, ap, refl}
use Rattle.tx_base.specs.SlotFacts.{slot_there}
use Rattle.tx_content.proofs.LiveCounts.{one_replaced}
use Rattle.tx_content.proofs.table.TxnTable.value_mut.Goals as goal

pub invariant_of-self-lent : goal.invariant_of-self-lent
invariant_of-self-lent c w =
    let bounds = slot_there c.self.inside.slots c.args.starter.0 c.value_mut.result.now c.value_mut.ensures.value in
    one_replaced c.self.inside.slots _ c.args.starter.0 w c.self.inside.live bounds.0 bounds.1 c.self.invariant refl (ap is_some c.value_mut.ensures.value)
