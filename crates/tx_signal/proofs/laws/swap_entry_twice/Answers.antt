use Rattle.tx_signal.proofs.ExchangeFacts.{entry_back}
use Rattle.tx_signal.proofs.laws.swap_entry_twice.Goals as goal

pub returns-clause-queue : goal.returns-clause-queue
returns-clause-queue c = λ place entry queue fits. (entry_back place entry queue fits).0

pub returns-clause-entry : goal.returns-clause-entry
returns-clause-entry c = λ place entry queue fits. (entry_back place entry queue fits).1
