use Rattle.std.proofs.Common.{◌≡◌, ◌++◌}
use Rattle.tx_json.specs.Each.{upto}
use Rattle.tx_model.specs.Memory.{page_at}
use Rattle.tx_json.specs.Processes.{page_item}
use Rattle.tx_json.proofs.processes.put_pages.Given as goal

abbrev pub invariant-loop-number : goal.invariant-loop-number
invariant-loop-number l = l.writer ≡ l.initial.writer ++ upto (λ number. page_item number (page_at l.space number)) l.number
