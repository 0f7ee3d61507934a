use Rattle.std.proofs.Common.{◌≡◌, ◌≤◌, vec_len}
use Rattle.tx_workers.proofs.floor.Floor.work.Given as goal

abbrev pub invariant-loop-before : goal.invariant-loop-before
invariant-loop-before g l =
    (l.runner.number ≡ l.post.number) × (1 ≤ l.runner.number) × (l.runner.number ≤ l.runner.total) × (vec_len l.runner.made ≤ l.before) × (l.share.parts ≡ 1) × (l.share.amount ≡ vec_len l.runner.made)
