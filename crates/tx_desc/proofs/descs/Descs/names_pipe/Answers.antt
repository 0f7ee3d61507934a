use Rattle.std.proofs.Common.{◌∙◌}
use Rattle.tx_desc.proofs.PipeEnds.{read_side, write_side}
use Rattle.tx_desc.proofs.descs.Descs.names_pipe.Goals as goal

pub returns-then-has_end : goal.returns-then-has_end
returns-then-has_end c = λ S has. c.if-has_end.true ∙ read_side c.has_end.result c.args.pipe.0 S (c.has_end.ensures S has) c.if-has_end.true

pub returns-else-has_end : goal.returns-else-has_end
returns-else-has_end c = λ S has.
    write_side c.has_end.result c.has_end-else-has_end.result c.args.pipe.0 S (c.has_end.ensures S has) c.if-has_end.false (c.has_end-else-has_end.ensures S has)
