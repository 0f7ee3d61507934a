use Rattle.std.proofs.Common.{◌≡◌, ◌++◌, slice_index_or}
use Rattle.tx_json.specs.Each.{upto}
use Rattle.tx_base.specs.declared.signals.Action.TheVariants.{Usual}
use Rattle.tx_json.specs.Signals.{action_item}
use Rattle.tx_json.proofs.signals.put_actions.Given as goal

abbrev pub invariant-loop-number : goal.invariant-loop-number
invariant-loop-number l = l.writer ≡ l.initial.writer ++ upto (λ signo. action_item signo (slice_index_or l.actions signo Usual)) l.number
