-- A kernel that keeps for each live transaction a log of old parts, and beside it what would be
-- pending at its starter after an abort. Own rules.
use Rattle.std.specs.Prelude.{◌≡◌, ℕ, Bool, true, false, List, [], ◌∷◌, length, Option, Some, None, is_some, if◌then◌else◌, ◌==◌}
use Rattle.tx_change.specs.Exchange.{object_of}
use Rattle.tx_change.specs.States.{changed_by}
use Rattle.tx_change.specs.declared.change.Change.{Change}
use Rattle.tx_laws.specs.Sound.{IsSound}
use Rattle.tx_laws.specs.TwoAnswers.{owns_named}
use Rattle.tx_laws.specs.TwoStates.{TwoStates, states_view}
use Rattle.tx_model.specs.Events.{Event, actor, effect}
use Rattle.tx_model.specs.Membership.{Table, empty_table, is_live, is_member_of}
use Rattle.tx_model.specs.State.{Ids, Process, State, Object, Proc, Desc, Pipe, Held, same_object}
use Rattle.tx_signal.specs.Parts.{PendingView, with_pending_part}
use Rattle.tx_txn.specs.Faces.{face_of, running, pending_in, faces_differ}

-- a live transaction
pub record Txn : Type 0 where
  -- what its members changed, as it was before, the newest first
  pub log : List Change
  -- what would be pending at its starter after an abort
  pub pending : PendingView
  -- the ids that the starter would have then
  pub ids : Ids

-- the state, what is kept of each live transaction, who owns each object, and the table of members
pub record LogKernel : Type 0 where
  pub now : State
  pub txns : ℕ → Option Txn
  pub owner : Object → Option ℕ
  pub table : Table

-- the process with this pending at it
abbrev pub overlay : PendingView → Option Process → Option Process
overlay pending None = None
overlay pending (Some q) = Some (with_pending_part pending q)

-- the same, or the process as it is
abbrev pub overlay_if : Bool → PendingView → Option Process → Option Process
overlay_if b pending x = if b then overlay pending x else x

-- the state with this pending at process s, and with nothing held by its transaction
abbrev pub with_kept : ℕ → PendingView → State → State
with_kept s pending S = record S {
  procs = λ n. overlay_if (n == s) pending (S.procs n);
  held = λ n. if n == s then [] else S.held n;
}

-- the state led back by the transaction of s
abbrev pub led_by : ℕ → Option Txn → State → State
led_by s None S = S
led_by s (Some t) S = with_kept s t.pending (changed_by t.log S)

-- the state without the owner's transaction
abbrev pub kept_for : LogKernel → Option ℕ → State
kept_for c None = c.now
kept_for c (Some s) = led_by s (c.txns s) c.now

-- at each object the state without its owner's transaction
unfoldable pub kept_of : LogKernel → State
kept_of c = record {
  width = c.now.width;
  procs = λ n. (kept_for c (c.owner (Proc n))).procs n;
  descs = λ n. (kept_for c (c.owner (Desc n))).descs n;
  pipes = λ n. (kept_for c (c.owner (Pipe n))).pipes n;
  held = λ n. (kept_for c (c.owner (Held n))).held n;
}

-- the kernel of two states that this gives
abbrev pub two_states_of : LogKernel → TwoStates
two_states_of c = record { now = c.now; kept = kept_of c; owner = c.owner; table = c.table }

-- whether a change of the list is of the object
unfoldable pub is_named : Object → List Change → Bool
is_named o [] = false
is_named o (change ∷ changes) =
    if same_object o (object_of change) then true else is_named o changes

-- nothing is held where no transaction is live
abbrev pub OthersHoldNothing : LogKernel → Type 0
OthersHoldNothing c = (s : ℕ) → c.txns s ≡ None → c.now.held s ≡ []

-- what holds for every content
pub record IsKept (c : LogKernel) : Type 0 where
  -- the live transactions are those of the table
  pub live : (s : ℕ) → is_some (c.txns s) ≡ is_live c.table s
  -- its transaction owns what a log names
  pub named : (s : ℕ) (t : Txn) → c.txns s ≡ Some t → (o : Object) → is_named o t.log ≡ true
      → c.owner o ≡ Some s
  -- without its transaction, a starter would run with the ids that are kept
  pub starter : (s : ℕ) (t : Txn) → c.txns s ≡ Some t
      → face_of ((kept_of c).procs s) ≡ Some (running t.ids)
  pub empty : OthersHoldNothing c
  pub sound : IsSound (states_view (two_states_of c))

-- the content at the start: no transaction is live
abbrev pub start_content : State → LogKernel
start_content S =
    record { now = S; txns = λ s. None; owner = λ o. None; table = empty_table S.width }

-- whether a send of the event to the starter s of the transaction is answered differently now than
-- after an abort
abbrev pub starter_differs : LogKernel → Event → ℕ → Txn → Bool
starter_differs c ev s t =
    faces_differ s (effect ev c.now).sends
    (face_of (c.now.procs s)) (length (pending_in (c.now.procs s)).queued)
    (Some (running t.ids)) (length t.pending.queued)

-- whether the transaction of s, if there is one, is in the way of the event
abbrev pub stands_in_way : LogKernel → Event → ℕ → Option Txn → Bool
stands_in_way c ev s None = false
stands_in_way c ev s (Some t) =
    if is_member_of c.table s (actor ev)
    then false
    else (if owns_named (two_states_of c) ev s then true else starter_differs c ev s t)
