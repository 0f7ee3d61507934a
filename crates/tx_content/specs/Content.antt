-- What the machine keeps, as a content of logs and kept signals.
use Rattle.std.specs.Prelude.{◌≡◌, ℕ, ◌≤◌, true, List, [], length, map, Option, Some, None, option_map}
use Rattle.tx_base.specs.Slots.{slot_at}
use Rattle.tx_base.specs.declared.marks.Mark.{Mark}
use Rattle.tx_change.specs.Counts.{CountsAgree}
use Rattle.tx_change.specs.Exchange.{undone, AreNamed}
use Rattle.tx_change.specs.Laws.{BringPlaces, HaveAllPlaces}
use Rattle.tx_change.specs.States.{state_of}
use Rattle.tx_cred.specs.Cred.{ids_of}
use Rattle.tx_kernel.specs.Plans.{sending_of}
use Rattle.tx_laws.specs.TwoStates.{is_owner, states_view}
use Rattle.tx_content.specs.declared.content.BoxedTxn.{BoxedTxn}
use Rattle.tx_content.specs.declared.content.Content.{Content}
use Rattle.tx_model.specs.Membership.{is_of}
use Rattle.tx_model.specs.State.{State, Object, Proc, Desc, Pipe, Held, Sending}
use Rattle.tx_model.specs.View.{View}
use Rattle.tx_reserve.specs.Objects.{is_in}
use Rattle.tx_reserve.specs.Reservations.{owner_of}
use Rattle.tx_txn.specs.Content.{LogKernel, Txn as TheTxn, two_states_of}
use Rattle.tx_txn.specs.Logs.{newest_first}
use Rattle.tx_txn.specs.Marks.{table_at}
use Rattle.tx_txn.specs.Outboxes.{unmade}
use Rattle.tx_txn.specs.declared.txn.Txn.{Txn}

-- what a slot's transaction holds
abbrev pub held_in : Option BoxedTxn → List Sending
held_in None = []
held_in (Some boxed) = map sending_of boxed.txn.value.outbox.sendings

abbrev pub held_of : Content → ℕ → List Sending
held_of k n = held_in (slot_at k.txns n)

-- the state
abbrev pub now_of : Content → State
now_of k = state_of (held_of k) k.parts

-- a live transaction, as the definitions have it
abbrev pub txn_of : BoxedTxn → TheTxn
txn_of boxed =
    record {
      log = newest_first boxed.txn.value.log;
      pending = boxed.txn.value.kept.pending;
      ids = ids_of boxed.txn.value.kept.ids;
    }

-- what a live transaction holds is its own
abbrev pub own_held : ℕ → Option BoxedTxn → Option ℕ
own_held n None = None
own_held n (Some boxed) = Some n

abbrev pub owner_at : Content → Object → Option ℕ
owner_at k (Proc n) = owner_of k.owners (Proc n)
owner_at k (Desc n) = owner_of k.owners (Desc n)
owner_at k (Pipe n) = owner_of k.owners (Pipe n)
owner_at k (Held n) = own_held n (slot_at k.txns n)

abbrev pub content_of : Content → LogKernel
content_of k =
    record {
      now = now_of k;
      txns = λ n. option_map txn_of (slot_at k.txns n);
      owner = owner_at k;
      table = table_at k.marks;
    }

-- the view that the machine has
unfoldable pub view_of : Content → View
view_of k = states_view (two_states_of (content_of k))

-- what holds for the transaction in the slot of a number
pub record IsTxn (k : Content) (n : ℕ) (txn : Txn) : Type 0 where
  pub starter : txn.starter.0 ≡ n
  -- its starter is a member, and it owns its members
  pub live : is_of n (slot_at k.marks n) ≡ true
  pub own : (p : ℕ) → is_of n (slot_at k.marks p) ≡ true → owner_of k.owners (Proc p) ≡ Some n
  pub named : AreNamed k.parts txn.log
  pub brings : BringPlaces txn.log
  -- without its steps the counts of names are also right
  pub counts : CountsAgree (undone k.parts txn.log)
  -- it has reserved what its starter owns
  pub objects : (o : Object) → is_in txn.objects o ≡ is_owner n (owner_of k.owners o)
  -- nothing that it holds is posted
  pub posts : txn.outbox.posts ≡ map (λ sending. unmade) txn.outbox.sendings
  pub members : txn.members ≡ None
  pub defers : (p : ℕ) (m : Mark) → slot_at k.marks p ≡ Some m → m.starter.0 ≡ n
      → m.defers ≡ txn.defers

-- the parts, the tables and the transactions fit together
pub record IsShaped (k : Content) : Type 0 where
  pub counts : CountsAgree k.parts
  pub places : HaveAllPlaces k.parts
  pub few : length k.parts.procs ≤ 256
  pub marks : length k.marks ≡ length k.parts.procs
  pub txns : length k.txns ≡ length k.parts.procs
  pub owners : length k.owners ≡ 352
  pub each : (n : ℕ) (boxed : BoxedTxn) → slot_at k.txns n ≡ Some boxed → IsTxn k n boxed.txn.value
