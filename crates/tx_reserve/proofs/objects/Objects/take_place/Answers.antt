use Rattle.std.proofs.Common.{arith}
use Rattle.tx_reserve.proofs.Places.{clear_edits, clear_falls}
use Rattle.tx_reserve.proofs.objects.Objects.take_place.Goals as goal

pub returns-clause-cleared : goal.returns-clause-cleared
returns-clause-cleared c = clear_edits c.args.self.now.words c.in_ok-place.place (omega (arith, c.in_ok-place.ensures.within))

pub returns-clause-falls : goal.returns-clause-falls
returns-clause-falls c = clear_falls c.args.self.now.words c.in_ok-place.place (omega (arith, c.in_ok-place.ensures.within)) c.in_ok-place.ensures.set
