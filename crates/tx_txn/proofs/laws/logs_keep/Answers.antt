use Rattle.tx_txn.proofs.Roles.{next_view}
use Rattle.tx_txn.proofs.Upkeep.{next_kept, next_step}
use Rattle.tx_txn.proofs.laws.logs_keep.Goals as goal

pub returns-clause-role : goal.returns-clause-role
returns-clause-role c = λ role event process new content kept. next_view c.role_laws.ensures content kept role event process new

pub returns-clause-kept : goal.returns-clause-kept
returns-clause-kept c = λ role event process new content kept. next_kept c.role_laws.ensures content kept role event process new

pub returns-clause-step : goal.returns-clause-step
returns-clause-step c = λ content step new kept. next_step c.role_laws.ensures content kept step new
