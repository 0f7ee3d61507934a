use Rattle.tx_change.proofs.Twice.{change_else}
use Rattle.tx_change.proofs.laws.nothing_else.Goals as goal

pub returns : goal.returns
returns c = change_else c.part_laws.ensures
