-- What the last step of a transaction is made with.
use Rattle.std.specs.Prelude.{◌≡◌, ◌-◌, List, [], length, Option}
use Rattle.tx_base.specs.declared.marks.Mark.{Mark}
use Rattle.tx_base.specs.declared.names.Missed.{Missed}
use Rattle.tx_base.specs.declared.names.Pid.{Pid}
use Rattle.tx_change.specs.declared.parts.Parts.{Parts}
use Rattle.tx_kernel.specs.declared.events.Act.{Act}
use Rattle.tx_content.specs.Insides.{MakesIn}
use Rattle.tx_content.specs.declared.commits.Last.{Last}
use Rattle.tx_content.specs.declared.inverse.Inverse.{Inverse}
use Rattle.tx_content.specs.declared.inverse.Inverse.TheVariants.{Outside, Inside, Begun, Committed, Aborted}
use Rattle.tx_model.specs.Effects.{failed_sends, send_answers}
use Rattle.tx_model.specs.Events.{Event, effect}
use Rattle.tx_model.specs.State.{State}
use Rattle.tx_txn.specs.Outboxes.{missed_in}
use Rattle.tx_txn.specs.declared.txn.Txn.{Txn}

-- the event was made by a member of the transaction, whose log has this many more changes
pub record MakesLast (before after : Parts) (marks : List (Option Mark)) (pid : Pid) (act : Act)
    (old new : Txn) (last : Last) : Type 0 where
  pub makes : MakesIn before after marks pid act old new last.planned
  pub count : last.count ≡ length new.log - length old.log

-- no post of the event itself is answered by an error
abbrev pub AreAnswered : Event → State → Type 0
AreAnswered event S = failed_sends (effect event S).sends (send_answers (effect event S) S) ≡ []

-- the signals that a commit held and could not deliver
abbrev pub missed_of : Inverse → List Missed
missed_of (Outside log post) = []
missed_of (Inside step held) = []
missed_of (Begun starter) = []
missed_of (Committed boxed count held) =
    missed_in boxed.txn.value.outbox.sendings boxed.txn.value.outbox.posts
missed_of (Aborted boxed stood) = []
