use Rattle.tx_change.proofs.Applied.{AreWithin-reverted}
use Rattle.tx_change.proofs.Placed.{log_comes_back}
use Rattle.tx_change.proofs.laws.changes_come_back.Goals as goal

pub returns-clause-named : goal.returns-clause-named
returns-clause-named c = AreWithin-reverted

pub returns-clause-again : goal.returns-clause-again
returns-clause-again c = log_comes_back c.part_laws.ensures
