use Rattle.tx_desc.proofs.Whole.{Counted}
use Rattle.tx_desc.proofs.descs.Descs.counted.Given as goal

abbrev pub invariant-loop-fd : goal.invariant-loop-fd
invariant-loop-fd l = Counted l.table l.fd l.counts
