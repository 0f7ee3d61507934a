-- Posts to what is kept of live starters.
use Rattle.std.specs.Prelude.{◌≡◌, ℕ, List, Option, Some, option_map, length}
use Rattle.tx_base.specs.Slots.{slot_at}
use Rattle.tx_cred.specs.Cred.{ids_of}
use Rattle.tx_content.specs.Inverses.{with_kept_pending}
use Rattle.tx_content.specs.declared.content.BoxedTxn.{BoxedTxn}
use Rattle.tx_model.specs.State.{Sending}
use Rattle.tx_txn.specs.Faces.{pending_after, pending_by, running}

-- the transaction with this posted to what is kept of its starter
abbrev pub posted_one : Sending → BoxedTxn → BoxedTxn
posted_one m boxed =
    with_kept_pending
    (pending_after m (Some (running (ids_of boxed.txn.value.kept.ids)))
    boxed.txn.value.kept.pending) boxed

-- the transaction in the slot of n, with these sends posted to what is kept of its starter
abbrev pub posted_at : ℕ → List Sending → BoxedTxn → BoxedTxn
posted_at n ms boxed =
    with_kept_pending
    (pending_by n ms (Some (running (ids_of boxed.txn.value.kept.ids)))
    boxed.txn.value.kept.pending) boxed

-- the sends were posted to what is kept of live starters
pub record PostsKept (old new : List (Option BoxedTxn)) (ms : List Sending) : Type 0 where
  pub width : length new ≡ length old
  pub each : (n : ℕ) → slot_at new n ≡ option_map (posted_at n ms) (slot_at old n)
