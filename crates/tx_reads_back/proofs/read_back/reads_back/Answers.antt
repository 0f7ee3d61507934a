use Rattle.tx_reads_back.proofs.EntriesBack.{entries_read_back}
use Rattle.tx_reads_back.proofs.StatesBack.{states_read_back}
use Rattle.tx_reads_back.proofs.StepsBack.{steps_read_back}
use Rattle.tx_reads_back.proofs.read_back.reads_back.Goals as goal

pub returns-clause-steps : goal.returns-clause-steps
returns-clause-steps c = steps_read_back

pub returns-clause-states : goal.returns-clause-states
returns-clause-states c = states_read_back

pub returns-clause-entries : goal.returns-clause-entries
returns-clause-entries c = entries_read_back
