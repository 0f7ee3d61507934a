use Rattle.std.proofs.Common.{◌≡◌, ◌++◌, take}
use Rattle.tx_json.specs.Each.{each_tokens}
use Rattle.tx_json.specs.Signals.{entry_item}
use Rattle.tx_json.proofs.signals.put_queued.Given as goal

abbrev pub invariant-loop-i : goal.invariant-loop-i
invariant-loop-i l = l.writer ≡ l.initial.writer ++ each_tokens entry_item (take l.i l.entries)
