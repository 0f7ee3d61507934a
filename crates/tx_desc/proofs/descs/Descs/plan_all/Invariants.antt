use Rattle.tx_desc.proofs.Whole.{Left, Planned}
use Rattle.tx_desc.proofs.descs.Descs.plan_all.Given as goal

abbrev pub invariant-loop-fd : goal.invariant-loop-fd
invariant-loop-fd l = record { planned : Planned l.names l.table l.self l.fd l.plan.items; left : Left l.table l.fd l.left }
