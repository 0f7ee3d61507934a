use Rattle.std.proofs.Common.{◌<◌, ◌^◌, arith, get_or}
use Rattle.tx_reserve.proofs.Members.{lowest_is_set, no_places}
use Rattle.tx_reserve.proofs.objects.Objects.first_place.Goals as goal

pub returns-then-word-ne0-clause-set : goal.returns-then-word-ne0-clause-set
returns-then-word-ne0-clause-set c =
    let fits : get_or c.args.self.now.words c.loop-i.i 0 < 2 ^ 32 = omega arith in
    lowest_is_set c.args.self.now.words c.loop-i.i (omega arith) fits

pub loop-i-preserved : goal.loop-i-preserved
loop-i-preserved c = no_places c.args.self.now.words c.loop-i.i c.if-word-ne0.false c.loop-i.invariant
