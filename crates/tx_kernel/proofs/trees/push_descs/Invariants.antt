use Rattle.std.proofs.Common.{◌≡◌, ◌++◌, drop}
use Rattle.tx_change.specs.Counts.{desc_changes}
use Rattle.tx_kernel.specs.Plans.{Extends}
use Rattle.tx_kernel.proofs.trees.push_descs.Given as goal

abbrev pub invariant-loop-new : goal.invariant-loop-new
invariant-loop-new l =
    (l.log ++ desc_changes (drop l.new-index l.news) ≡ l.initial.log ++ desc_changes l.news) × Extends l.initial.log l.log
