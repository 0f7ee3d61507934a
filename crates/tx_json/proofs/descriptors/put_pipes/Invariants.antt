use Rattle.std.proofs.Common.{◌≡◌, ◌++◌}
use Rattle.tx_json.specs.Each.{upto}
use Rattle.tx_change.specs.Exchange.{pipe_at}
use Rattle.tx_json.specs.Descriptors.{pipe_item}
use Rattle.tx_json.proofs.descriptors.put_pipes.Given as goal

abbrev pub invariant-loop-number : goal.invariant-loop-number
invariant-loop-number l = l.writer ≡ l.initial.writer ++ upto (λ number. pipe_item number (pipe_at l.pipes number)) l.number
