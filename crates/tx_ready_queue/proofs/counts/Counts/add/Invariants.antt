use Rattle.std.proofs.Common.{◌≡◌, ℕ, ◌+◌, ◌<◌, ◌≤◌, length, slice_index}
use Rattle.tx_ready_queue.proofs.counts.Counts.add.Given as goal

abbrev pub invariant-loop-place : goal.invariant-loop-place
invariant-loop-place l = (length l.self.by_place ≡ length l.initial.self.by_place)
    × ((k : ℕ) → k < l.place → slice_index l.self.by_place k ≡ slice_index l.initial.self.by_place k + slice_index l.other.by_place k)
    × ((k : ℕ) → l.place ≤ k → slice_index l.self.by_place k ≡ slice_index l.initial.self.by_place k)
