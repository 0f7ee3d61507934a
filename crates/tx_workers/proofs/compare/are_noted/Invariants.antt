use Rattle.std.proofs.Common.{◌≡◌, All, take}
use Rattle.tx_workers.specs.Teams.{places_of}
use Rattle.tx_workers.proofs.compare.are_noted.Given as goal

abbrev pub invariant-loop-runner : goal.invariant-loop-runner
invariant-loop-runner l = All (λ r. r.made.items ≡ places_of r.number l.start l.added) (take l.runner-index l.runners)
