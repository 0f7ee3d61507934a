use Rattle.std.proofs.Common.{◌∙◌}
use Rattle.tx_desc.proofs.Free.{first_vacant}
use Rattle.tx_desc.proofs.table.FdTable.lowest_free.Goals as goal

pub returns : goal.returns
returns c = c.first_vacant.ensures ∙ first_vacant c.self.inside.places c.args.self.now c.self.view_is
