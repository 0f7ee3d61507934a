use Rattle.tx_desc.proofs.Counting.{keeps_agree, keeps_come, keeps_go, keeps_stay}
use Rattle.tx_desc.proofs.laws.counts_kept.Goals as goal

pub returns-clause-changed : goal.returns-clause-changed
returns-clause-changed c = keeps_agree

pub returns-clause-comes : goal.returns-clause-comes
returns-clause-comes c = keeps_come

pub returns-clause-ends : goal.returns-clause-ends
returns-clause-ends c = keeps_go

pub returns-clause-nobody : goal.returns-clause-nobody
returns-clause-nobody c = keeps_stay
