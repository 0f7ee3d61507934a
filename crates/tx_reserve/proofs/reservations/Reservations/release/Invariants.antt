use Rattle.std.proofs.Common.{None}
use Rattle.tx_reserve.specs.Objects.{weight}
use Rattle.tx_reserve.proofs.Owned.{Gave}
use Rattle.tx_reserve.proofs.reservations.Reservations.release.Given as goal

abbrev pub invariant-loop-object : goal.invariant-loop-object
invariant-loop-object l = Gave None l.objects l.rest l.fn.self l.self

abbrev pub decreases-loop-object : goal.decreases-loop-object
decreases-loop-object l = weight l.rest
