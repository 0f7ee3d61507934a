use Rattle.tx_laws.proofs.TwoStatesView.{states_start, same_view, states_next_view}
use Rattle.tx_laws.proofs.StepView.{states_step_view}
use Rattle.tx_laws.proofs.two_states.Goals as goal

pub returns-clause-start : goal.returns-clause-start
returns-clause-start c = states_start

pub returns-clause-same : goal.returns-clause-same
returns-clause-same c = same_view

pub returns-clause-role : goal.returns-clause-role
returns-clause-role c = states_next_view

pub returns-clause-step : goal.returns-clause-step
returns-clause-step c = states_step_view
