use Rattle.tx_signal.proofs.QueueFacts.{discard-one, discard-none}
use Rattle.tx_signal.proofs.laws.discarded_in_turn.Goals as goal

pub returns-clause-one : goal.returns-clause-one
returns-clause-one c = discard-one

pub returns-clause-none : goal.returns-clause-none
returns-clause-none c = discard-none
