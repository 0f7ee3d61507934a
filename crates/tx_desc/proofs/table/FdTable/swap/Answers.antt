use Rattle.tx_desc.proofs.Free.{shown_set}
use Rattle.tx_desc.proofs.table.FdTable.swap.Goals as goal

pub returns-clause-exchanged : goal.returns-clause-exchanged
returns-clause-exchanged c = shown_set c.self.inside.places c.args.self.now c.args.fd c.swap.new.x c.args.name.now c.self.view_is c.swap.ensures.x_after
