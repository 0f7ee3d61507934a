use Rattle.tx_proc.proofs.Twice.{edited_twice, part_twice}
use Rattle.tx_proc.proofs.laws.twice_is_nothing.Goals as goal

pub returns : goal.returns
returns c =
    let queue = c.swap_entry_twice.ensures.queue in
    let entry = c.swap_entry_twice.ensures.entry in
    λ proc part sized below. (edited_twice queue entry proc part, part_twice queue entry proc part sized below)
