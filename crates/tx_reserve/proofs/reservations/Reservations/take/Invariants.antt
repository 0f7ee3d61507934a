use Rattle.std.proofs.Common.{Some}
use Rattle.tx_reserve.specs.Objects.{weight}
use Rattle.tx_reserve.proofs.Owned.{AreFresh, Gave}
use Rattle.tx_reserve.proofs.reservations.Reservations.take.Given as goal

abbrev pub invariant-loop-object : goal.invariant-loop-object
invariant-loop-object l = Gave (Some l.starter.0) l.objects l.rest l.fn.self l.self × AreFresh l.objects l.rest l.fresh l.fn.self

abbrev pub decreases-loop-object : goal.decreases-loop-object
decreases-loop-object l = weight l.rest
