use Rattle.tx_laws.proofs.StatesAnswers.{states_present, doom_kept, two_answers_states, in_way_states, starter_in_way_states}
use Rattle.tx_laws.proofs.answers_of_states.Goals as goal

pub returns-clause-present : goal.returns-clause-present
returns-clause-present c = states_present

pub returns-clause-doom : goal.returns-clause-doom
returns-clause-doom c = doom_kept

pub returns-clause-two_answers : goal.returns-clause-two_answers
returns-clause-two_answers c = two_answers_states

pub returns-clause-in_way : goal.returns-clause-in_way
returns-clause-in_way c = in_way_states

pub returns-clause-starter_in_way : goal.returns-clause-starter_in_way
returns-clause-starter_in_way c = starter_in_way_states
