use Rattle.tx_step.proofs.WaysTold.{call_posted, delivery_posted}
use Rattle.tx_step.proofs.refusal_laws.posts_are_sends.Goals as goal

pub returns-clause-call : goal.returns-clause-call
returns-clause-call c = call_posted

pub returns-clause-delivery : goal.returns-clause-delivery
returns-clause-delivery c = delivery_posted
