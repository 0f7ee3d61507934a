use Rattle.std.proofs.Common.{w64, sym}
use Rattle.std.proofs.lemmas.Int.{to_z-of_z}
use Rattle.tx_desc.specs.declared.opened.Side.TheVariants.{Read}
use Rattle.tx_kernel.proofs.Piped.{open_end_is}
use Rattle.tx_kernel.proofs.actor.Actor.reading.Goals as goal

pub returns-clause-effect : goal.returns-clause-effect
returns-clause-effect c held =
    simp (to_z-of_z w64 c.args.address c.ranges.address, to_z-of_z w64 c.args.count c.ranges.count) at
    (c.reading_from.ensures.effect c.args.fd held (open_end_is c.args.self.now Read c.args.fd c.in_ok-desc.desc held (sym (simp (to_z-of_z w64 c.args.fd c.ranges.fd) at c.in_ok-desc.ensures))))
