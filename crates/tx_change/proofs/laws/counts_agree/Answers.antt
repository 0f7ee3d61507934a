use Rattle.tx_change.proofs.Counted.{counts_kept, counts_forked, counts_ended, counts_removed, counts_elsewhere, counts_nameless}
use Rattle.tx_change.proofs.laws.counts_agree.Goals as goal

pub returns-clause-call : goal.returns-clause-call
returns-clause-call c = counts_kept

pub returns-clause-fork : goal.returns-clause-fork
returns-clause-fork c = counts_forked

pub returns-clause-end : goal.returns-clause-end
returns-clause-end c = counts_ended

pub returns-clause-removal : goal.returns-clause-removal
returns-clause-removal c = counts_removed

pub returns-clause-elsewhere : goal.returns-clause-elsewhere
returns-clause-elsewhere c = counts_elsewhere

pub returns-clause-nameless : goal.returns-clause-nameless
returns-clause-nameless c = counts_nameless
