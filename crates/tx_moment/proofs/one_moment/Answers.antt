use Rattle.tx_moment.proofs.Following.{moments, booted_moments}
use Rattle.tx_moment.proofs.Shuffled.{shuffled}
use Rattle.tx_moment.proofs.one_moment.Goals as goal

pub returns-clause-moment : goal.returns-clause-moment
returns-clause-moment c = moments c.laws.ensures

pub returns-clause-booted : goal.returns-clause-booted
returns-clause-booted c = booted_moments c.laws.ensures c.well_formed-2.ensures.booted c.well_formed_table.ensures.booted

pub returns-clause-parts : goal.returns-clause-parts
returns-clause-parts c = shuffled
