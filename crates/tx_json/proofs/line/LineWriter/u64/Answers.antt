use Rattle.tx_json.proofs.OneLine.{count_written}
use Rattle.tx_json.proofs.line.LineWriter.u64.Goals as goal

pub invariant_of-self : goal.invariant_of-self
invariant_of-self c = count_written c.self.inside.writer c.u64.new.self c.u64.result c.args.count c.ranges.count.fits c.self.invariant c.u64.ensures
