use Rattle.tx_moment.proofs.UnseenEvents.{unseen_signals_stay, unseen_objects_stay, unseen_replies_stay}
use Rattle.tx_moment.proofs.unseen.unseen_signals.Goals as goal

pub returns-clause-state : goal.returns-clause-state
returns-clause-state c = unseen_signals_stay

pub returns-clause-objects : goal.returns-clause-objects
returns-clause-objects c = unseen_objects_stay

pub returns-clause-reply : goal.returns-clause-reply
returns-clause-reply c = unseen_replies_stay
