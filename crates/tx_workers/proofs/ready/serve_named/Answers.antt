use Rattle.std.proofs.Common.{ap, arith, length}
use Rattle.std.proofs.lemmas.List.FromFn.{length-range_with_len}
use Rattle.tx_ready_queue.specs.declared.rule.Hand.{Hand}
use Rattle.tx_workers.proofs.ready.serve_named.Goals as goal

pub serve_scoped-requires-clause-put : goal.serve_scoped-requires-clause-put
serve_scoped-requires-clause-put g c = omega (arith, ap (λ (h : Hand). length h.put) c.in-Ok.ensures.numbers, length-range_with_len 1 c.processes-processes.result)
