use Rattle.tx_change.proofs.Applied.{applied_reverted}
use Rattle.tx_change.proofs.laws.revert_then_apply.Goals as goal

pub returns : goal.returns
returns c = applied_reverted c.part_laws.ensures
