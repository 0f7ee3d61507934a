use Rattle.tx_change.proofs.Counted.{room_for_name, room_for_names}
use Rattle.tx_change.proofs.laws.room_for_names.Goals as goal

pub returns-clause-all : goal.returns-clause-all
returns-clause-all c = room_for_names c.part_laws.ensures

pub returns-clause-one : goal.returns-clause-one
returns-clause-one c = room_for_name c.part_laws.ensures
