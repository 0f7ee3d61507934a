use Rattle.std.proofs.Common.{◌≡◌, ◌++◌, length}
use Rattle.std.specs.List.{filter}
use Rattle.tx_base.specs.Signals.{bits_of}
use Rattle.tx_lines.specs.Sets.{set_text}
use Rattle.tx_model.specs.SignalSets.{is_in_set}
use Rattle.tx_translate.proofs.SetTexts.{text_after}
use Rattle.tx_translate.proofs.sets.put_set.Given as goal

abbrev pub invariant-loop-signo : goal.invariant-loop-signo
invariant-loop-signo l = l.initial.room.items ++ set_text l.set ≡ l.room.items ++ text_after l.some (filter (is_in_set (bits_of l.set)) l.left)

abbrev pub decreases-loop-signo : goal.decreases-loop-signo
decreases-loop-signo l = length l.left
