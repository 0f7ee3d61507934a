use Rattle.tx_laws.proofs.Erased.{lawful_next, lawful_sound}
use Rattle.tx_laws.proofs.next_view.Goals as goal

pub returns-clause-history : goal.returns-clause-history
returns-clause-history c = lawful_next

pub returns-clause-sound : goal.returns-clause-sound
returns-clause-sound c = lawful_sound
