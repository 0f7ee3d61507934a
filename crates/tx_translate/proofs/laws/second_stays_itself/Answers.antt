use Rattle.tx_translate.proofs.StayingPrograms.{program_stays}
use Rattle.tx_translate.proofs.StayingSteps.{each_stays, schedule_stays, walk_stays}
use Rattle.tx_translate.proofs.laws.second_stays_itself.Goals as goal

pub returns-clause-step : goal.returns-clause-step
returns-clause-step c = each_stays

pub returns-clause-schedule : goal.returns-clause-schedule
returns-clause-schedule c = schedule_stays

pub returns-clause-walk : goal.returns-clause-walk
returns-clause-walk c = walk_stays

pub returns-clause-program : goal.returns-clause-program
returns-clause-program c = program_stays
