use Rattle.std.proofs.Common.{sym}
use Rattle.tx_reserve.proofs.Members.{if_none, nothing_in, takes_out}
use Rattle.tx_reserve.specs.Objects.{object_of}
use Rattle.tx_reserve.proofs.objects.Objects.pop.Goals as goal

pub returns-in_err-place-clause-none : goal.returns-in_err-place-clause-none
returns-in_err-place-clause-none c = if_none c.from_residual.result _ (λ o. nothing_in c.args.self.now o c.in_err-place.ensures.none)

pub returns-clause-some : goal.returns-clause-some
returns-clause-some c =
    takes_out c.args.self.now c.take_place.new.self (object_of c.at.result) c.in_ok-place.place c.at.ensures.small (sym c.at.ensures.place) c.in_ok-place.ensures.set
    c.in_ok-place.ensures.cleared c.in_ok-place.ensures.falls
