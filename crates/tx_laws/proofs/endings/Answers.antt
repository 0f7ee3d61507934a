use Rattle.tx_laws.proofs.SaysEnded.{other_calls_say, exits_say, deliveries_say, step_told, other_call_told, exit_told, delivery_told}
use Rattle.tx_laws.proofs.ShownFew.{shown_few}
use Rattle.tx_laws.proofs.TellsParent.{endings_answered}
use Rattle.tx_laws.proofs.endings.Goals as goal

pub returns-clause-calls : goal.returns-clause-calls
returns-clause-calls c = other_calls_say

pub returns-clause-deliveries : goal.returns-clause-deliveries
returns-clause-deliveries c = deliveries_say

pub returns-clause-answered : goal.returns-clause-answered
returns-clause-answered c = endings_answered

pub returns-clause-step : goal.returns-clause-step
returns-clause-step c = step_told

pub returns-clause-other_call : goal.returns-clause-other_call
returns-clause-other_call c = other_call_told

pub returns-clause-delivery : goal.returns-clause-delivery
returns-clause-delivery c = delivery_told

pub returns-clause-exits : goal.returns-clause-exits
returns-clause-exits c = exits_say

pub returns-clause-exit : goal.returns-clause-exit
returns-clause-exit c = exit_told

pub returns-clause-shown : goal.returns-clause-shown
returns-clause-shown c = shown_few
