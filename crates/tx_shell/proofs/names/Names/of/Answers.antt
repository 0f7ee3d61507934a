use Rattle.std.proofs.Common.{option_map, refl}
use Rattle.tx_shell.proofs.NamesThere.{all_names}
use Rattle.tx_shell.proofs.names.Names.of.Goals as goal

pub loop-i-init : goal.loop-i-init
loop-i-init c = refl

pub returns : goal.returns
returns c = all_names c.args.self.session.now c.args.process c.args.self.given.now (option_map (λ name. name.now) c.loop-i.found) c.loop-i.i c.loop-i.invariant c.loop-i-test.false
