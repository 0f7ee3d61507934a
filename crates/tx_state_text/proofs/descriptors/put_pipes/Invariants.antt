use Rattle.std.proofs.Common.{◌≡◌, ◌++◌, string_bytes}
use Rattle.tx_change.specs.Exchange.{pipe_at}
use Rattle.tx_state_text.specs.Descriptors.{pipe_line}
use Rattle.tx_state_text.specs.Each.{upto}
use Rattle.tx_state_text.proofs.descriptors.put_pipes.Given as goal

abbrev pub invariant-loop-number : goal.invariant-loop-number
invariant-loop-number l = string_bytes l.text ≡ string_bytes l.initial.text ++ upto (λ number. pipe_line number (pipe_at l.pipes number)) l.number
