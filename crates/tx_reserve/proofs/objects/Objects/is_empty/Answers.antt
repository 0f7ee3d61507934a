use Rattle.std.proofs.Common.{◌<◌, ◌^◌, arith, get_or}
use Rattle.tx_reserve.proofs.Members.{empty_test, tells_more}
use Rattle.tx_reserve.proofs.objects.Objects.is_empty.Goals as goal

pub loop-i-preserved : goal.loop-i-preserved
loop-i-preserved c =
    let fits : get_or c.args.self.now.words c.loop-i.i 0 < 2 ^ 32 = omega arith in
    tells_more c.args.self.now.words c.loop-i.i c.loop-i.all (omega arith) fits c.loop-i.invariant

pub returns : goal.returns
returns c = empty_test c.args.self.now c.loop-i.i c.loop-i.all (omega arith) c.loop-i.invariant
