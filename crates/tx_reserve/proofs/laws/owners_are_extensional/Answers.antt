use Rattle.tx_reserve.proofs.SameOwners.{same_owners}
use Rattle.tx_reserve.proofs.laws.owners_are_extensional.Goals as goal

pub returns : goal.returns
returns c = same_owners
