use Rattle.std.proofs.Common.{◌≡◌, ◌++◌, string_bytes, slice_index_or, None}
use Rattle.tx_state_text.specs.Descriptors.{fd_line}
use Rattle.tx_state_text.specs.Each.{upto}
use Rattle.tx_state_text.proofs.descriptors.put_fds.Given as goal

abbrev pub invariant-loop-fd : goal.invariant-loop-fd
invariant-loop-fd l = string_bytes l.text ≡ string_bytes l.initial.text ++ upto (λ fd. fd_line fd (slice_index_or l.table fd None)) l.fd
