use Rattle.std.proofs.Common.{take}
use Rattle.tx_model.specs.Descriptors.{desc_objects, open_in}
use Rattle.tx_reserve.specs.Footprints.{Adds}
use Rattle.tx_reserve.proofs.footprints.add_open.Given as goal

abbrev pub invariant-loop-fd : goal.invariant-loop-fd
invariant-loop-fd l = Adds l.fn.set l.set (desc_objects (open_in (take l.fd l.descriptors)))
