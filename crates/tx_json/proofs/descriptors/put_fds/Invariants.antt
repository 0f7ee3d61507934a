use Rattle.std.proofs.Common.{◌≡◌, ◌++◌, slice_index_or, None}
use Rattle.tx_json.specs.Each.{upto}
use Rattle.tx_json.specs.Descriptors.{fd_item}
use Rattle.tx_json.proofs.descriptors.put_fds.Given as goal

abbrev pub invariant-loop-fd : goal.invariant-loop-fd
invariant-loop-fd l = l.writer ≡ l.initial.writer ++ upto (λ fd. fd_item fd (slice_index_or l.table fd None)) l.fd
