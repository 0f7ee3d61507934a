use Rattle.std.proofs.Common.{◌≡◌, ◌-◌, drop}
use Rattle.std.specs.List.{find}
use Rattle.tx_content.specs.Content.{view_of}
use Rattle.tx_workers.specs.Turns.{all_after, is_next_of, next_process}
use Rattle.tx_workers.proofs.next.next_process.Given as goal

abbrev pub invariant-loop-places : goal.invariant-loop-places
invariant-loop-places l =
    next_process (view_of l.machine) l.number l.total l.last
    ≡ find (is_next_of (view_of l.machine) l.number l.total) (drop l.places (all_after (view_of l.machine).table.width l.last))

abbrev pub decreases-loop-places : goal.decreases-loop-places
decreases-loop-places l = l.width - l.places
