use Rattle.std.proofs.Common.{◌≡◌, None}
use Rattle.tx_explain.specs.Edits.{nearest_below}
use Rattle.tx_explain.proofs.near.nearest.Given as goal

abbrev pub invariant-loop-edits : goal.invariant-loop-edits
invariant-loop-edits l = nearest_below l.edits l.word ≡ None
