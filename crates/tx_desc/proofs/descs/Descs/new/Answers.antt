use Rattle.std.proofs.Common.{refl}
use Rattle.tx_desc.proofs.CountedEnds.{none_counted}
use Rattle.tx_desc.proofs.descs.Descs.new.Goals as goal

pub invariant_of-result : goal.invariant_of-result
invariant_of-result c = none_counted _ c.new.result refl c.new.ensures
