use Rattle.std.proofs.Common.{◌≡◌, ◌-◌, []}
use Rattle.std.specs.List.{range_with_len}
use Rattle.tx_ready_queue.specs.Hands.{hand}
use Rattle.tx_ready_queue.specs.Stations.{IsStationOf}
use Rattle.tx_ready_queue.proofs.queue.ReadyQueue.open.Given as goal

abbrev pub invariant-loop-number : goal.invariant-loop-number
invariant-loop-number g l = IsStationOf l.queue l.station × (l.station.hand ≡ hand 65536 (range_with_len 1 (l.number - 1)) [])
