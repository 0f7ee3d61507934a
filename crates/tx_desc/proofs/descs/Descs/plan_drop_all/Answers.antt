use Rattle.tx_desc.proofs.Whole.{dropped_descs}
use Rattle.tx_desc.proofs.descs.Descs.plan_drop_all.Goals as goal

pub returns-clause-descriptions : goal.returns-clause-descriptions
returns-clause-descriptions c = λ others S a has named. dropped_descs c.args.table.now c.args.self.now _ others S c.plan_all.ensures.after a has named
