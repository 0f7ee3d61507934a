use Rattle.std.proofs.Common.{arith, ◌∙◌, length, ◌≡◌}
use Rattle.tx_ready_queue.proofs.Counting.{counts_both}
use Rattle.tx_ready_queue.proofs.counts.Counts.add.Goals as goal

pub returns : goal.returns
returns c = λ mine theirs has has'.
    let long : length c.args.other.now.by_place ≡ 256 = has'.places in
    counts_both _ _ _ mine theirs has has' (c.loop-place.invariant.0 ∙ has.places) (λ place within. c.loop-place.invariant.1 place (omega arith))
