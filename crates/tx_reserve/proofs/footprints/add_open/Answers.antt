use Rattle.std.proofs.Common.{arith}
use Rattle.tx_desc.specs.Places.{number_in}
use Rattle.tx_model.specs.Descriptors.{open_in}
use Rattle.tx_reserve.proofs.Rows.{adds_none, one_more, all_open}
use Rattle.tx_reserve.proofs.footprints.add_open.Goals as goal

pub loop-fd-init : goal.loop-fd-init
unfolding open_in
loop-fd-init c = adds_none c.args.set.now

pub loop-fd-preserved : goal.loop-fd-preserved
loop-fd-preserved c = one_more c.args.descriptors.now c.loop-fd.fd (number_in c.get.result) (omega (arith, c.sized.ensures)) c.get.ensures c.loop-fd.invariant c.add_desc.ensures

pub returns : goal.returns
returns c = all_open c.args.descriptors.now c.loop-fd.fd (omega (arith, c.sized.ensures)) c.loop-fd.invariant
