use Rattle.std.proofs.Common.{length, option_map}
use Rattle.tx_check.proofs.NearNames.{SoughtNear}
use Rattle.tx_check.specs.Near.{near}
use Rattle.tx_translate.specs.MeantLines.{left_of}
use Rattle.tx_check.proofs.near.nearest_label.Given as goal

abbrev pub invariant-loop-line : goal.invariant-loop-line
invariant-loop-line l = SoughtNear l.word (left_of l.text) (option_map near l.nearest) (left_of l.left)

abbrev pub decreases-loop-line : goal.decreases-loop-line
decreases-loop-line l = length l.left.left.now
