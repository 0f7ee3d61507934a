use Rattle.tx_change.proofs.InTurn.{slot_in_turn, descs_in_turn, counts_in_turn, plans_are_named, plans_in_turn, counts_planned, counts_replaced}
use Rattle.tx_change.proofs.laws.counts_in_turn.Goals as goal

pub returns-clause-slot : goal.returns-clause-slot
returns-clause-slot c = slot_in_turn

pub returns-clause-descs : goal.returns-clause-descs
returns-clause-descs c = descs_in_turn

pub returns-clause-counts : goal.returns-clause-counts
returns-clause-counts c = counts_in_turn

pub returns-clause-named : goal.returns-clause-named
returns-clause-named c = plans_are_named

pub returns-clause-planned : goal.returns-clause-planned
returns-clause-planned c = plans_in_turn

pub returns-clause-call : goal.returns-clause-call
returns-clause-call c = counts_planned

pub returns-clause-process : goal.returns-clause-process
returns-clause-process c = counts_replaced
