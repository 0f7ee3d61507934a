use Rattle.tx_signal.proofs.ExchangeFacts.{action_back}
use Rattle.tx_signal.proofs.laws.swap_action_twice.Goals as goal

pub returns-clause-actions : goal.returns-clause-actions
returns-clause-actions c = action_back
