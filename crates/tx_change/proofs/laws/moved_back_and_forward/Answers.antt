use Rattle.tx_change.proofs.Stacked.{back_and_forward, logged_again, moved_on_top, moved_there, rest_below}
use Rattle.tx_change.proofs.laws.moved_back_and_forward.Goals as goal

pub returns-clause-top : goal.returns-clause-top
returns-clause-top c = moved_on_top

pub returns-clause-rest : goal.returns-clause-rest
returns-clause-rest c = rest_below

pub returns-clause-there : goal.returns-clause-there
returns-clause-there c = moved_there

pub returns-clause-parts : goal.returns-clause-parts
returns-clause-parts c = back_and_forward c.part_laws.ensures

pub returns-clause-log : goal.returns-clause-log
returns-clause-log c = logged_again c.part_laws.ensures
