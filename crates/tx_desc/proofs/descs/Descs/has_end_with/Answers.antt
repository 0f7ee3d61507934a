use Rattle.std.proofs.Common.{◌∙◌, arith}
use Rattle.tx_desc.proofs.PipeEnds.{end_instead}
use Rattle.tx_desc.proofs.descs.Descs.has_end_with.Goals as goal

pub returns : goal.returns
returns c = λ S has.
    c.has_instead.ensures
    ∙ rw (c.get-old.ensures, ← c.self.view_is) (end_instead c.args.side c.args.pipe.0 c.args.new.number.0 c.args.new.opened S c.self.inside.places c.self.inside.ends (omega arith) c.requires c.self.invariant (rw c.self.view_is has))
