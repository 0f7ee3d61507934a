use Rattle.std.proofs.Common.{arith}
use Rattle.tx_tests.proofs.kernel.booted.Goals as goal

pub returns : goal.returns
returns c = c.booted_are_whole.ensures 64 2 c.in_ok-parts.parts (omega arith) (omega arith) (omega arith) c.in_ok-parts.ensures.state c.in_ok-parts.ensures.places c.in_ok-parts.ensures.counts
