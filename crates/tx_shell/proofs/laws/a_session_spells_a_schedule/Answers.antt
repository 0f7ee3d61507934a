use Rattle.tx_shell.proofs.Spelled.{first_spelled, spells_schedule, stays_spelled}
use Rattle.tx_shell.proofs.laws.a_session_spells_a_schedule.Goals as goal

pub returns-clause-first : goal.returns-clause-first
returns-clause-first c = first_spelled

pub returns-clause-stays : goal.returns-clause-stays
returns-clause-stays c = stays_spelled

pub returns-clause-schedule : goal.returns-clause-schedule
returns-clause-schedule c = spells_schedule
