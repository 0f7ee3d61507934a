use Rattle.std.proofs.Common.{◌≡◌, ◌++◌, take, string_bytes}
use Rattle.std.specs.List.{flat_map}
use Rattle.tx_picture.specs.Stretches.{lane_text}
use Rattle.tx_picture.proofs.stretches.put_lanes.Given as goal

abbrev pub invariant-loop-i : goal.invariant-loop-i
invariant-loop-i l = string_bytes l.text ≡ string_bytes l.initial.text ++ flat_map (lane_text l.columns l.last) (take l.i l.lanes)
