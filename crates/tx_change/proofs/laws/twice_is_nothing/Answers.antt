use Rattle.tx_change.proofs.Twice.{back, twice}
use Rattle.tx_change.proofs.laws.twice_is_nothing.Goals as goal

pub returns : goal.returns
returns c = λ parts change named places. (back c.part_laws.ensures parts change named, twice c.part_laws.ensures parts change named places)
