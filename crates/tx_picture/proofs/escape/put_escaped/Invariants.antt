use Rattle.std.proofs.Common.{◌≡◌, ◌++◌, take, string_bytes}
use Rattle.tx_picture.specs.Svg.{escaped}
use Rattle.tx_picture.proofs.escape.put_escaped.Given as goal

abbrev pub invariant-loop-i : goal.invariant-loop-i
invariant-loop-i l = string_bytes l.text ≡ string_bytes l.initial.text ++ escaped (take l.i l.words)
