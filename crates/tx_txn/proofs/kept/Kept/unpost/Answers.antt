use Rattle.std.proofs.Common.{None, ◌∙◌}
use Rattle.tx_signal.specs.Entries.{entry_swapped}
use Rattle.tx_txn.proofs.kept.Kept.unpost.Goals as goal

pub returns-in-Queued-clause-again : goal.returns-in-Queued-clause-again
returns-in-Queued-clause-again c =
    let back = (λ i. entry_swapped c.in-Queued.place (c.swap_entry.ensures.given i) (c.swap_entry.ensures.exchanged i).queued)
    ∙ c.swap_entry_twice.ensures.queue c.in-Queued.place None c.args.self.now.pending.queued c.queued-fits.ensures.fits in
    (λ i. record { standard = (c.swap_entry.ensures.exchanged i).standard; queued = back i })
