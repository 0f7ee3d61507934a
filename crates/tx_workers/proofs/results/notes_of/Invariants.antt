use Rattle.std.proofs.Common.{◌≡◌, ◌++◌, length}
use Rattle.tx_workers.specs.Teams.{notes_of}
use Rattle.tx_workers.proofs.results.notes_of.Given as goal

abbrev pub invariant-loop-entry : goal.invariant-loop-entry
invariant-loop-entry l = l.notes.items ++ notes_of l.runner.number l.left ≡ notes_of l.runner.number l.added

abbrev pub decreases-loop-entry : goal.decreases-loop-entry
decreases-loop-entry l = length l.left
