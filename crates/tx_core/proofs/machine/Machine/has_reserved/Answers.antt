use Rattle.std.proofs.Common.{Some, None, false, refl}
use Rattle.tx_core.proofs.Reading.{has_reserved}
use Rattle.tx_core.proofs.machine.Machine.has_reserved.Goals as goal

pub returns-in-Some : goal.returns-in-Some
returns-in-Some c = has_reserved c.self.inside.content c.args.self.now c.args.starter.0 c.args.object (Some c.in-Some.owner.0) c.eq.result c.in-Some.ensures c.eq.ensures c.self.view_is

pub returns-in-None : goal.returns-in-None
returns-in-None c = has_reserved c.self.inside.content c.args.self.now c.args.starter.0 c.args.object None false c.in-None.ensures refl c.self.view_is
