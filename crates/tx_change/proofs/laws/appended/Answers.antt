use Rattle.tx_change.proofs.Applied.{sizes-applied, sizes-undone, applied-append, undone-append, reverted-append}
use Rattle.tx_change.proofs.InLists.{exchanged-append, changed-append, named-append}
use Rattle.tx_change.proofs.laws.appended.Goals as goal

pub returns-clause-applied : goal.returns-clause-applied
returns-clause-applied c = applied-append

pub returns-clause-exchanged : goal.returns-clause-exchanged
returns-clause-exchanged c = exchanged-append

pub returns-clause-undone : goal.returns-clause-undone
returns-clause-undone c = undone-append

pub returns-clause-reverted : goal.returns-clause-reverted
returns-clause-reverted c = reverted-append

pub returns-clause-state : goal.returns-clause-state
returns-clause-state c = changed-append

pub returns-clause-named : goal.returns-clause-named
returns-clause-named c = named-append

pub returns-clause-sizes : goal.returns-clause-sizes
returns-clause-sizes c = sizes-applied

pub returns-clause-sizes_back : goal.returns-clause-sizes_back
returns-clause-sizes_back c = sizes-undone
