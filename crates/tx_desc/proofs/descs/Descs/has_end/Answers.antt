use Rattle.std.proofs.Common.{◌∙◌, arith}
use Rattle.tx_desc.proofs.PipeEnds.{end_there}
use Rattle.tx_desc.proofs.descs.Descs.has_end.Goals as goal

pub returns : goal.returns
returns c = λ S has.
    c.has.ensures ∙ end_there c.args.side c.args.pipe.0 S c.self.inside.places c.self.inside.ends (omega arith) c.self.invariant (rw c.self.view_is has)
