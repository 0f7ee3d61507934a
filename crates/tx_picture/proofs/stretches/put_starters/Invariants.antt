use Rattle.std.proofs.Common.{◌≡◌, ◌++◌, take, string_bytes}
use Rattle.std.specs.List.{flat_map}
use Rattle.tx_picture.specs.Stretches.{starter_text}
use Rattle.tx_picture.proofs.stretches.put_starters.Given as goal

abbrev pub invariant-loop-i : goal.invariant-loop-i
invariant-loop-i l = string_bytes l.text ≡ string_bytes l.initial.text ++ flat_map (starter_text l.columns) (take l.i l.strips)
