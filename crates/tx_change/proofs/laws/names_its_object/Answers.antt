use Rattle.tx_change.proofs.Stated.{names_its_object}
use Rattle.tx_change.proofs.laws.names_its_object.Goals as goal

pub returns : goal.returns
returns c = names_its_object
