-- What a transaction holds until it commits.
use Rattle.std.specs.Prelude.{List, [], ◌∷◌, None, Result, Ok, Err}
use Rattle.tx_base.specs.declared.errors.Errno.{Errno}
use Rattle.tx_base.specs.declared.names.Missed.{Missed}
use Rattle.tx_base.specs.declared.names.Sending.{Sending}
use Rattle.tx_txn.specs.declared.outbox.HeldPost.{HeldPost}

-- the signals, in order, and what the post of each came to
pub record Held : Type 0 where
  pub sendings : List Sending
  pub posts : List HeldPost

-- a post that is not made
abbrev pub unmade : HeldPost
unmade = record { answer = Ok tt; change = None; kept = None }

-- for a signal and how its post was answered: one more that was not delivered, if that was an error
abbrev pub with_missed : Sending → Result (Unit {0}) Errno → List Missed → List Missed
with_missed sending (Ok _) rest = rest
with_missed sending (Err errno) rest =
    record { target = sending.target; signo = sending.signo; errno = errno } ∷ rest

-- the signals whose posts were answered by an error, in order
abbrev pub missed_in : List Sending → List HeldPost → List Missed
missed_in [] posts = []
missed_in (sending ∷ sendings) [] = []
missed_in (sending ∷ sendings) (post ∷ posts) =
    with_missed sending post.answer (missed_in sendings posts)
