use Rattle.std.proofs.Common.{◌≡◌, ℕ, ◌*◌, ◌<◌, false}
use Rattle.tx_reserve.specs.Objects.{has_place}
use Rattle.tx_reserve.proofs.objects.Objects.first_place.Given as goal

abbrev pub invariant-loop-i : goal.invariant-loop-i
invariant-loop-i l = (q : ℕ) → q < 32 * l.i → has_place l.self.words q ≡ false
