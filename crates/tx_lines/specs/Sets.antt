-- The spelling of a set of signals.
use Rattle.std.specs.Prelude.{ℕ, List, ◌++◌}
use Rattle.std.specs.List.{filter}
use Rattle.tx_base.specs.Signals.{bits_of}
use Rattle.tx_base.specs.declared.signals.SigSet.{SigSet}
use Rattle.tx_model.specs.SignalSets.{standard_signals, realtime_signals, is_in_set}
use Rattle.tx_lines.specs.Lists.{list_text}

-- the known signals that are in a set, rising
unfoldable pub members : ℕ → List ℕ
members set = filter (λ signo. is_in_set set signo) (standard_signals ++ realtime_signals)

-- the spelling of a set as a number
abbrev pub bits_text : ℕ → List ℕ
bits_text bits = list_text (members bits)

-- the spelling of a set
abbrev pub set_text : SigSet → List ℕ
set_text set = bits_text (bits_of set)
