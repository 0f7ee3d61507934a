use Rattle.std.proofs.Common.{◌≡◌, length}
use Rattle.tx_translate.specs.OwnLines.{own_lines}
use Rattle.tx_translate.specs.Plain.{is_third, is_third_from}
use Rattle.tx_translate.proofs.plain.is_third.Given as goal

abbrev pub invariant-loop-line : goal.invariant-loop-line
invariant-loop-line l = is_third l.text ≡ is_third_from (own_lines l.left)

abbrev pub decreases-loop-line : goal.decreases-loop-line
decreases-loop-line l = length l.left
