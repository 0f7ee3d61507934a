use Rattle.std.proofs.Common.{◌≡◌, ◌++◌}
use Rattle.tx_json.specs.Each.{upto}
use Rattle.tx_base.specs.Signals.{bits_of}
use Rattle.tx_json.specs.Lists.{signal_item}
use Rattle.tx_json.proofs.lists.put_set.Given as goal

abbrev pub invariant-loop-number : goal.invariant-loop-number
invariant-loop-number l = l.writer ≡ l.initial.writer ++ upto (λ signo. signal_item (bits_of l.set) signo) l.number
