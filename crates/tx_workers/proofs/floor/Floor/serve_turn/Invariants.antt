use Rattle.std.proofs.Common.{◌≡◌, ◌+◌, ◌≤◌, length, vec_len}
use Rattle.tx_ready_queue.specs.Hands.{GivesBack}
use Rattle.tx_ready_queue.specs.Stations.{IsStationOf}
use Rattle.tx_workers.proofs.floor.Floor.serve_turn.Given as goal

abbrev pub invariant-loop : goal.invariant-loop
invariant-loop g l =
    let held = l.station.hand in
    let before = l.fn.station.hand in
    (l.share.amount ≡ l.fn.share.amount) × (vec_len l.runner.made ≡ vec_len l.fn.runner.made) × (l.share.parts ≡ l.fn.share.parts) × (l.runner.number ≡ l.fn.runner.number)
    × IsStationOf l.queue l.station × (held.parts ≡ before.parts) × GivesBack held × (length held.put ≤ length before.put + l.counter) × (length held.taken ≤ length before.taken + l.counter)
    × (length before.taken ≤ length held.taken)
