use Rattle.tx_laws.proofs.Commutes.{reply_named}
use Rattle.tx_laws.proofs.Local.{actor_in, effect_same, objects_same}
use Rattle.tx_laws.proofs.StatesElsewhere.{writes_elsewhere, posts_alone}
use Rattle.tx_laws.proofs.StepView.{elsewhere, states_elsewhere}
use Rattle.tx_laws.proofs.locality.Goals as goal

pub returns-clause-actor : goal.returns-clause-actor
returns-clause-actor c = actor_in

pub returns-clause-same : goal.returns-clause-same
returns-clause-same c = effect_same

pub returns-clause-objects : goal.returns-clause-objects
returns-clause-objects c = objects_same

pub returns-clause-reply : goal.returns-clause-reply
returns-clause-reply c = reply_named

pub returns-clause-elsewhere : goal.returns-clause-elsewhere
returns-clause-elsewhere c = elsewhere

pub returns-clause-parts : goal.returns-clause-parts
returns-clause-parts c = states_elsewhere

pub returns-clause-writes : goal.returns-clause-writes
returns-clause-writes c = writes_elsewhere

pub returns-clause-sends : goal.returns-clause-sends
returns-clause-sends c = posts_alone
