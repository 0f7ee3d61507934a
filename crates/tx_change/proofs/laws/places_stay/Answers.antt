use Rattle.tx_change.proofs.Placed.{exchanged_bring, places_stay, undone_placed}
use Rattle.tx_change.proofs.laws.places_stay.Goals as goal

pub returns-clause-forth : goal.returns-clause-forth
returns-clause-forth c = places_stay

pub returns-clause-back : goal.returns-clause-back
returns-clause-back c = undone_placed

pub returns-clause-taken : goal.returns-clause-taken
returns-clause-taken c = exchanged_bring
