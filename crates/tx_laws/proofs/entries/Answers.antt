use Rattle.tx_laws.proofs.Coherence.{quiet_objects, quiet_sent}
use Rattle.tx_laws.proofs.Erased.{entry_fits}
use Rattle.tx_laws.proofs.Local.{after_keeps}
use Rattle.tx_laws.proofs.entries.Goals as goal

pub returns-clause-fit : goal.returns-clause-fit
returns-clause-fit c = entry_fits

pub returns-clause-objects : goal.returns-clause-objects
returns-clause-objects c = λ view event left_out sound clear quiet. quiet_objects view event sound clear left_out quiet

pub returns-clause-answers : goal.returns-clause-answers
returns-clause-answers c = λ view event left_out sound clear quiet. quiet_sent view event sound clear left_out quiet

pub returns-clause-keeps : goal.returns-clause-keeps
returns-clause-keeps c = after_keeps
