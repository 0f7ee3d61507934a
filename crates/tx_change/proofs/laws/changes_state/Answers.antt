use Rattle.tx_change.proofs.Stated.{changes_state, changes_state_in_turn}
use Rattle.tx_change.proofs.laws.changes_state.Goals as goal

pub returns-clause-one : goal.returns-clause-one
returns-clause-one c = changes_state

pub returns-clause-in_turn : goal.returns-clause-in_turn
returns-clause-in_turn c = changes_state_in_turn
