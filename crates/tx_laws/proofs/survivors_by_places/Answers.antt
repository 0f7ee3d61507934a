use Rattle.tx_laws.proofs.ByPlaces.{by_places}
use Rattle.tx_laws.proofs.survivors_by_places.Goals as goal

pub returns : goal.returns
returns c = by_places
