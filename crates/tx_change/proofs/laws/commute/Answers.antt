use Rattle.tx_change.proofs.Twice.{changes_commute}
use Rattle.tx_change.proofs.laws.commute.Goals as goal

pub returns : goal.returns
returns c = changes_commute c.part_laws.ensures
