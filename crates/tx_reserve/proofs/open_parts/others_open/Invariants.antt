use Rattle.std.proofs.Common.{◌≡◌}
use Rattle.tx_model.specs.Membership.{others_open}
use Rattle.tx_reserve.specs.Footprints.{table_of}
use Rattle.tx_reserve.proofs.open_parts.others_open.Given as goal

abbrev pub invariant-loop-below : goal.invariant-loop-below
invariant-loop-below l = l.is_any ≡ others_open (table_of l.parts l.marks) l.starter.0 l.pid.0 l.below
