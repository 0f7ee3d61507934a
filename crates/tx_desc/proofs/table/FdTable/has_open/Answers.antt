use Rattle.tx_desc.proofs.Vacant.{vacant}
use Rattle.tx_desc.proofs.table.FdTable.has_open.Goals as goal

pub returns : goal.returns
returns c = rw (← c.self.view_is) (vacant c.has_some.result c.self.inside.places c.has_some.ensures)
