use Rattle.std.proofs.Common.{ℕ, ap, get_or, ◌/◌, ◌%◌, ◌==◌}
use Rattle.std.proofs.lemmas.Nat.Bits.{shr_and_one}
use Rattle.tx_reserve.specs.Objects.{has_place}
use Rattle.tx_reserve.proofs.objects.Objects.has_place.Goals as goal

pub returns : goal.returns
unfolding has_place
returns c = ap (λ (b : ℕ). b == 1) (shr_and_one (get_or c.args.self.now.words (c.args.place / 32) 0) (c.args.place % 32))
