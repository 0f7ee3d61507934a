use Rattle.tx_reads_back.proofs.Histories.{histories_of_kernel}
use Rattle.tx_reads_back.proofs.Resting.{resting_same}
use Rattle.tx_reads_back.proofs.TextsDetermine.{texts_determine}
use Rattle.tx_reads_back.proofs.texts_determine_states.Goals as goal

pub returns-clause-determined : goal.returns-clause-determined
returns-clause-determined c = texts_determine

pub returns-clause-resting : goal.returns-clause-resting
returns-clause-resting c = resting_same

pub returns-clause-histories : goal.returns-clause-histories
returns-clause-histories c = histories_of_kernel c.next_view.ensures.sound c.well_formed-2.ensures.booted c.well_formed_table.ensures.booted c.well_formed-2.ensures.history c.well_formed_table.ensures.history
