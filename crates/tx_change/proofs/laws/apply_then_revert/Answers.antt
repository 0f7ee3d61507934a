use Rattle.tx_change.proofs.Applied.{undone_exchanged}
use Rattle.tx_change.proofs.laws.apply_then_revert.Goals as goal

pub returns : goal.returns
returns c = undone_exchanged c.part_laws.ensures
