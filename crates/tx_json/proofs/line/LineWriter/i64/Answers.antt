use Rattle.std.proofs.lemmas.Int.{to_z-of_z}
use Rattle.std.specs.Int.{w64}
use Rattle.tx_json.proofs.OneLine.{signed_written}
use Rattle.tx_json.proofs.line.LineWriter.i64.Goals as goal

pub invariant_of-self : goal.invariant_of-self
invariant_of-self c =
    signed_written c.self.inside.writer c.i64.new.self c.i64.result c.args.signed _ c.ranges.signed (to_z-of_z w64 c.args.signed c.ranges.signed) c.self.invariant c.i64.ensures
