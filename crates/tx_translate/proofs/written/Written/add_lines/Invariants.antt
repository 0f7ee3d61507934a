use Rattle.std.proofs.Common.{◌≡◌, fold, length}
use Rattle.tx_translate.specs.OwnLines.{own_lines}
use Rattle.tx_translate.specs.Written.{noted, notes_as}
use Rattle.tx_translate.proofs.written.Written.add_lines.Given as goal

abbrev pub invariant-loop-line : goal.invariant-loop-line
invariant-loop-line l = fold noted (notes_as l.initial.self) (own_lines l.text) ≡ fold noted (notes_as l.self) (own_lines l.left)

abbrev pub decreases-loop-line : goal.decreases-loop-line
decreases-loop-line l = length l.left
