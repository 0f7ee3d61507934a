use Rattle.tx_core.proofs.LeastNumbers.{NoneBelow}
use Rattle.tx_content.specs.Content.{view_of}
use Rattle.tx_model.specs.FreeNumbers.{is_free_process}
use Rattle.tx_core.proofs.free.least_process.Given as goal

abbrev pub invariant-loop-number : goal.invariant-loop-number
invariant-loop-number l = NoneBelow (is_free_process (view_of l.content) l.pid.0) l.number
