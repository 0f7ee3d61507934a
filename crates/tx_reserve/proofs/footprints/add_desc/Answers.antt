use Rattle.tx_model.specs.State.{Desc}
use Rattle.tx_reserve.proofs.Rows.{adds_none, adds_one}
use Rattle.tx_reserve.proofs.footprints.add_desc.Goals as goal

pub returns-in-Some : goal.returns-in-Some
returns-in-Some c = rw c.in-Some.is (adds_one c.args.set.now c.insert.new.self (Desc c.in-Some.number.0) c.insert.ensures)

pub returns-in_default : goal.returns-in_default
returns-in_default c = rw c.in_default.is (adds_none c.args.set.now)
