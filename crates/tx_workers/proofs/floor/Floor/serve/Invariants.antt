use Rattle.std.proofs.Common.{◌≡◌, ◌*◌, ◌≤◌, length, vec_len}
use Rattle.tx_ready_queue.specs.Hands.{GivesBack}
use Rattle.tx_ready_queue.specs.Stations.{IsStationOf}
use Rattle.tx_workers.proofs.floor.Floor.serve.Given as goal

abbrev pub invariant-loop-before : goal.invariant-loop-before
invariant-loop-before g l =
    let held = l.station.hand in
    (l.runner.number ≡ l.post.number) × (vec_len l.runner.made ≤ l.before) × (l.share.parts ≡ 1) × (l.share.amount ≡ vec_len l.runner.made) × IsStationOf l.queue l.station
    × (held.parts ≡ 1) × GivesBack held × (length held.put ≤ l.before * 256) × (length held.taken ≤ l.before * 256) × (vec_len l.runner.made ≤ length held.taken)
