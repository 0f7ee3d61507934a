use Rattle.std.proofs.Common.{subst}
use Rattle.tx_check.specs.Right.{IsRight}
use Rattle.tx_check.specs.declared.places.Part.{Part}
use Rattle.tx_check.proofs.diagnose.trouble_between.Goals as goal

pub link_trouble-requires-clause-right : goal.link_trouble-requires-clause-right
link_trouble-requires-clause-right c = subst (λ (part : Part). IsRight part c.args.place.now.version c.args.line.now) c.in-Link.is c.requires.right
