-- What is kept of the process that began a transaction.
use Rattle.std.specs.Prelude.{Option, Some, None}
use Rattle.tx_base.specs.Signals.{bits_of}
use Rattle.tx_cred.specs.Cred.{ids_of}
use Rattle.tx_model.specs.State.{Process}
use Rattle.tx_signal.specs.Entries.{entry_swapped}
use Rattle.tx_signal.specs.Parts.{PendingView}
use Rattle.tx_txn.specs.declared.kept.Kept.{Kept}
use Rattle.tx_txn.specs.declared.kept.Repost.{Repost}
use Rattle.tx_txn.specs.declared.kept.Repost.TheVariants as repost
use Rattle.tx_txn.specs.declared.kept.Unpost.{Unpost}
use Rattle.tx_txn.specs.declared.kept.Unpost.TheVariants.{Standard, Queued}

-- a process as it is kept: it runs, with these ids, and this is pending at it
abbrev pub kept_as : Kept → Process → Process
kept_as kept me =
    record me {
      ids = ids_of kept.ids;
      status = None;
      pending = kept.pending.standard;
      queued = kept.pending.queued;
    }

-- what was pending before a post
abbrev pub unposted : Option Unpost → PendingView → PendingView
unposted None pending = pending
unposted (Some (Standard set)) pending = record pending { standard = bits_of set }
unposted (Some (Queued place)) pending =
    record pending { queued = entry_swapped place None pending.queued }

-- what is pending after a post that was taken back is made again
abbrev pub posted_again : Repost → PendingView → PendingView
posted_again (repost.Standard set) pending = record pending { standard = bits_of set }
posted_again (repost.Queued place entry) pending =
    record pending { queued = entry_swapped place entry pending.queued }
