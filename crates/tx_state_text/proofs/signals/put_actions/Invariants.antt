use Rattle.std.proofs.Common.{◌≡◌, ◌++◌, slice_index_or, string_bytes}
use Rattle.tx_base.specs.declared.signals.Action.TheVariants.{Usual}
use Rattle.tx_state_text.specs.Each.{upto}
use Rattle.tx_state_text.specs.Signals.{action_line}
use Rattle.tx_state_text.proofs.signals.put_actions.Given as goal

abbrev pub invariant-loop-number : goal.invariant-loop-number
invariant-loop-number l = string_bytes l.text ≡ string_bytes l.initial.text ++ upto (λ signo. action_line signo (slice_index_or l.actions signo Usual)) l.number
