use Rattle.tx_laws.proofs.HoldsInside.{holds_own}
use Rattle.tx_laws.proofs.Taken.{do_sends}
use Rattle.tx_laws.proofs.inside.Goals as goal

pub returns-clause-held : goal.returns-clause-held
returns-clause-held c = holds_own

pub returns-clause-sends : goal.returns-clause-sends
returns-clause-sends c = do_sends
