use Rattle.std.proofs.Common.{subst}
use Rattle.tx_check.specs.Speaking.{IsAt}
use Rattle.tx_check.proofs.placed.is_byte_at.Goals as goal

pub returns : goal.returns
returns c = λ there. subst (IsAt c.args.line.now c.args.column) c.as_slice.ensures (c.is_at.ensures there)
