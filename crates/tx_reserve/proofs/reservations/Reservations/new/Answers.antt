use Rattle.std.proofs.Common.{Option, List, ap, ◌∙◌}
use Rattle.tx_base.specs.declared.names.Pid.{Pid}
use Rattle.tx_reserve.specs.Reservations.{owner_of}
use Rattle.tx_reserve.proofs.Owned.{nobody_owns}
use Rattle.tx_reserve.proofs.reservations.Reservations.new.Goals as goal

pub returns : goal.returns
returns c = λ o. ap (λ (places : List (Option Pid)). owner_of places o) c.loop-place.invariant ∙ nobody_owns c.loop-place._place o
