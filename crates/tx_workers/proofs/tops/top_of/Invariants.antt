use Rattle.std.proofs.Common.{◌≤◌, All, take}
use Rattle.tx_workers.specs.Tops.{IsWithin}
use Rattle.tx_workers.proofs.tops.top_of.Given as goal

abbrev pub invariant-loop-entry : goal.invariant-loop-entry
invariant-loop-entry l = (l.session.count ≤ l.top) × All (λ e. IsWithin l.top e.step) (take l.entry-index l.session.entries)
