use Rattle.std.proofs.Common.{List, Option, None, ap, sym, ◌∙◌, option_map}
use Rattle.std.proofs.lemmas.List.{get_or_read_under}
use Rattle.tx_base.specs.declared.names.Pid.{Pid}
use Rattle.tx_reserve.specs.Objects.{object_of}
use Rattle.tx_reserve.specs.Reservations.{number_of, owner_of}
use Rattle.tx_reserve.proofs.Owned.{owner_large, owner_small}
use Rattle.tx_reserve.proofs.reservations.Reservations.owner.Goals as goal

pub returns-in_err-place : goal.returns-in_err-place
returns-in_err-place c = ap (option_map number_of) c.from_residual.ensures ∙ sym (owner_large c.args.self.now (object_of c.args.object) c.in_err-place.ensures.none)

pub returns : goal.returns
returns c =
    let places : List (Option Pid) = c.self.inside.places.items in
    ap (option_map number_of) (get_or_read_under places c.in_ok-place.place 352 c.index.result.now None c.index.ensures c.in_ok-place.ensures.within (sym c.self.invariant))
    ∙ owner_small places (object_of c.args.object) c.in_ok-place.place c.in_ok-place.ensures.small c.in_ok-place.ensures.place
    ∙ ap (λ (all : List (Option Pid)). owner_of all (object_of c.args.object)) c.self.view_is
