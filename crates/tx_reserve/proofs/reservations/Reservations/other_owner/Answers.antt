use Rattle.std.proofs.Common.{option_map, ap, ◌∙◌}
use Rattle.tx_model.specs.State.{Object}
use Rattle.tx_reserve.specs.Objects.{object_of}
use Rattle.tx_reserve.specs.Reservations.{number_of, owner_of, unless}
use Rattle.tx_reserve.proofs.Members.{object_at_is}
use Rattle.tx_reserve.proofs.Owned.{owner_large}
use Rattle.tx_reserve.proofs.reservations.Reservations.other_owner.Goals as goal

pub returns-in_err-place : goal.returns-in_err-place
returns-in_err-place c = rw (owner_large c.args.self.now (object_of c.args.object) c.in_err-place.ensures.none) (ap (option_map number_of) c.from_residual.ensures)

pub returns : goal.returns
returns c =
    c.other_owner_at.ensures ∙ ap (λ (o : Object). unless (option_map number_of c.args.own) (owner_of c.args.self.now o))
    (object_at_is (object_of c.args.object) _ c.in_ok-place.ensures.small c.in_ok-place.ensures.place)
