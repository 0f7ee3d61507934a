use Rattle.std.proofs.Common.{option_map, ◌∙◌}
use Rattle.tx_step.proofs.InWay.{starter_in_way_is}
use Rattle.tx_step.specs.Faces.{sent}
use Rattle.tx_reserve.specs.Reservations.{number_of}
use Rattle.tx_step.proofs.in_way.find_starter.Goals as goal

pub returns : goal.returns
returns c = λ event is_footprint sends mine.
    c.lesser.ensures
    ∙ starter_in_way_is c.args.content.now c.requires (option_map number_of c.args.own) c.args.footprint.now (sent c.args.first.now c.args.held.now)
    event is_footprint sends mine c.answers_of_faces.ensures.starter_in_way
    (option_map number_of c.conflict-owner.result) (option_map number_of c.least_target-target.result) c.conflict-owner.ensures c.least_target-target.ensures
