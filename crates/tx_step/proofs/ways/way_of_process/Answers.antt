use Rattle.std.proofs.Common.{option_map}
use Rattle.tx_step.proofs.OwnWays.{starter_in_way_alone, set_alone}
use Rattle.tx_reserve.specs.Reservations.{number_of}
use Rattle.tx_step.proofs.ways.way_of_process.Goals as goal

pub returns-clause-set : goal.returns-clause-set
returns-clause-set c = set_alone c.args.footprint.now c.insert.new.self c.args.process.0 c.requires.empty c.insert.ensures

pub returns-clause-starter_in_way : goal.returns-clause-starter_in_way
returns-clause-starter_in_way c = λ event is_footprint quiet mine.
    starter_in_way_alone c.args.content.now c.requires.kept (option_map number_of c.args.own) c.insert.new.self c.args.process.0 (returns-clause-set c) event is_footprint quiet mine
    c.answers_of_faces.ensures.starter_in_way (option_map number_of c.other_owner.result) c.other_owner.ensures
