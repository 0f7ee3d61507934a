use Rattle.tx_proc.proofs.Twice.{edited_twice}
use Rattle.tx_proc.proofs.laws.exchanges_back.Goals as goal

pub returns : goal.returns
returns c = edited_twice c.swap_entry_twice.ensures.queue c.swap_entry_twice.ensures.entry
