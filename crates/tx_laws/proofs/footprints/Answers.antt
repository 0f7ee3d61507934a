use Rattle.tx_laws.proofs.Coherence.{clear_foot}
use Rattle.tx_laws.proofs.SharedFootprints.{footprint_held}
use Rattle.tx_laws.proofs.StepFootprints.{footprint_of_event}
use Rattle.tx_laws.proofs.StepsInWay.{starter_in_way_of_step}
use Rattle.tx_laws.proofs.Taken.{clear_of}
use Rattle.tx_laws.proofs.footprints.Goals as goal

pub returns-clause-of_event : goal.returns-clause-of_event
returns-clause-of_event c = footprint_of_event

pub returns-clause-starter_in_way : goal.returns-clause-starter_in_way
returns-clause-starter_in_way c = starter_in_way_of_step

pub returns-clause-shared : goal.returns-clause-shared
returns-clause-shared c = footprint_held

pub returns-clause-clear : goal.returns-clause-clear
returns-clause-clear c = clear_of

pub returns-clause-members : goal.returns-clause-members
returns-clause-members c view event object starter sound clear there reserved = clear_foot view event sound clear object starter there reserved
