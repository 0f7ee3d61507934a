use Rattle.std.proofs.Common.{◌≡◌, length}
use Rattle.tx_workers.specs.Teams.{places_of}
use Rattle.tx_workers.proofs.compare.is_noted.Given as goal

-- where the places that are left are those of the entries that are left, all are
abbrev pub invariant-loop-entry : goal.invariant-loop-entry
invariant-loop-entry l = l.rest ≡ places_of l.number l.place l.left → l.made ≡ places_of l.number l.start l.added

abbrev pub decreases-loop-entry : goal.decreases-loop-entry
decreases-loop-entry l = length l.left
