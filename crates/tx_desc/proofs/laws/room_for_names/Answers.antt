use Rattle.tx_desc.proofs.Counting.{backed_room}
use Rattle.tx_desc.proofs.Totals.{room}
use Rattle.tx_desc.proofs.laws.room_for_names.Goals as goal

pub returns-clause-all : goal.returns-clause-all
returns-clause-all c = room

pub returns-clause-one : goal.returns-clause-one
returns-clause-one c = λ table descs fd room less backed. backed_room fd room 16 table descs less backed
