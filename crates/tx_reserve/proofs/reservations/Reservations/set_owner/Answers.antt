use Rattle.std.proofs.Common.{List, Option, None, option_map, ap, ◌∙◌, if◌then◌else◌}
use Rattle.tx_base.specs.declared.names.Pid.{Pid}
use Rattle.tx_model.specs.State.{Object, same_object}
use Rattle.tx_reserve.specs.Objects.{is_small, object_of}
use Rattle.tx_reserve.specs.Reservations.{number_of, owner_of}
use Rattle.tx_reserve.proofs.Owned.{owner_not_set, owner_set}
use Rattle.tx_reserve.proofs.reservations.Reservations.set_owner.Goals as goal

pub returns-in-Some : goal.returns-in-Some
returns-in-Some c = λ (o : Object).
    let before : List (Option Pid) = c.self.inside.places.items in
    owner_set before (object_of c.args.object) o c.in-Some.place c.args.owner c.self.invariant c.in-Some.ensures.small c.in-Some.ensures.place
    ∙ ap (λ (places : List (Option Pid)). if same_object o (object_of c.args.object) then (if is_small o then option_map number_of c.args.owner else None) else owner_of places o) c.self.view_is

pub returns-in_default : goal.returns-in_default
returns-in_default c = λ o. owner_not_set c.args.self.now (object_of c.args.object) o (option_map number_of c.args.owner) c.in_default.ensures.none
