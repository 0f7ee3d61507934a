use Rattle.std.proofs.Common.{drop, ◌≡◌, ◌++◌, length, ◌≤◌}
use Rattle.tx_txn.specs.Outboxes.{missed_in}
use Rattle.tx_txn.proofs.outbox.list_missed.Given as goal

abbrev pub invariant-loop-place : goal.invariant-loop-place
invariant-loop-place l = length (missed_in l.held l.posts) ≤ 33 → l.missed.items ++ missed_in (drop l.place l.held) (drop l.place l.posts) ≡ missed_in l.held l.posts
