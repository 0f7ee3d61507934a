use Rattle.std.proofs.Common.{◌≡◌, ◌++◌, map, take, string_bytes}
use Rattle.tx_check.specs.Speaking.{shown}
use Rattle.tx_check.proofs.sentences.put_shown.Given as goal

abbrev pub invariant-loop-at : goal.invariant-loop-at
invariant-loop-at l = string_bytes l.text ≡ string_bytes l.initial.text ++ map shown (take l.at l.bytes)
