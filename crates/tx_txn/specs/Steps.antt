-- What a step makes of the content, by its role. Of the kept side it reads only what is pending at
-- starters, and their ids. Own rules.
use Rattle.std.specs.Prelude.{◌≡◌, ℕ, true, List, [], ◌++◌, Option, Some, None, if◌then◌else◌, ◌==◌}
use Rattle.tx_change.specs.States.{changed_by}
use Rattle.tx_change.specs.declared.change.Change.{Change}
use Rattle.tx_laws.specs.TwoStates.{freed, made, states_view}
use Rattle.tx_model.specs.Events.{Event, effect}
use Rattle.tx_model.specs.History.{event_footprint, objects_reserved}
use Rattle.tx_model.specs.Membership.{Role, Outside, Within, Commits, Aborts, table_after}
use Rattle.tx_model.specs.State.{Ids, Process, Sending, State, Object, Proc, Desc, Pipe, Held, put_at, has_object, root_ids}
use Rattle.tx_model.specs.View.{View}
use Rattle.tx_txn.specs.Content.{Txn, LogKernel, OthersHoldNothing, IsKept, overlay_if, led_by, two_states_of, is_named}
use Rattle.tx_txn.specs.Faces.{running, pending_in, pending_by}

-- the ids of a process: root's, if there is none
abbrev pub ids_in : Option Process → Ids
ids_in None = root_ids
ids_in (Some q) = q.ids

-- the transaction of s, with these sends posted
abbrev pub posted : ℕ → List Sending → Option Txn → Option Txn
posted s ms None = None
posted s ms (Some t) =
    Some (record t { pending = pending_by s ms (Some (running t.ids)) t.pending })

-- the records of a step come before those of the steps before it; a transaction begins with what is
-- pending at its starter, and with its ids
abbrev pub logged : List Change → Option Process → Option Txn → Option Txn
logged new q None = Some (record { log = new; pending = pending_in q; ids = ids_in q })
logged new q (Some t) = Some (record t { log = new ++ t.log })

-- the content after a step of process p in this role; a step inside a transaction logs these
-- changes
unfoldable pub next_content : Role → Event → ℕ → List Change → LogKernel → LogKernel
next_content Outside ev p new c = record {
  now = made ev c.now c.now;
  txns = λ s. posted s (effect ev c.now).sends (c.txns s);
  owner = c.owner;
  table = table_after Outside p c.table;
}
next_content (Within s progress) ev p new c = record {
  now = made ev c.now c.now;
  txns = put_at c.txns s (logged new (c.now.procs s) (c.txns s));
  owner =
      λ o.
      if has_object o (objects_reserved progress s (event_footprint c.table ev c.now))
      then Some s
      else c.owner o;
  table = table_after (Within s progress) p c.table;
}
next_content (Commits s) ev p new c = record {
  now = made ev c.now c.now;
  txns = λ t. posted t (effect ev c.now).sends (put_at c.txns s None t);
  owner = λ o. freed s (c.owner o);
  table = table_after (Commits s) p c.table;
}
next_content (Aborts s status) ev p new c = record {
  now = made ev (led_by s (c.txns s) c.now) (led_by s (c.txns s) c.now);
  txns = put_at c.txns s None;
  owner = λ o. freed s (c.owner o);
  table = table_after (Aborts s status) p c.table;
}

-- the two states are the same at the object, except what is pending at process s and what s holds
abbrev pub AgreeBut : ℕ → State → State → Object → Type 0
AgreeBut s S R (Proc n) =
    overlay_if (n == s) (pending_in None) (S.procs n)
    ≡ overlay_if (n == s) (pending_in None) (R.procs n)
AgreeBut s S R (Desc n) = S.descs n ≡ R.descs n
AgreeBut s S R (Pipe n) = S.pipes n ≡ R.pipes n
AgreeBut s S R (Held n) = (if n == s then [] else S.held n) ≡ (if n == s then [] else R.held n)

-- the records of a step inside the transaction of s lead its state back
pub record LeadsBack (s : ℕ) (objects : List Object) (new : List Change) (after before : State)
    : Type 0 where
  -- they are of objects that the step reserves
  pub named : (o : Object) → is_named o new ≡ true → has_object o objects ≡ true
  pub back : (o : Object) → AgreeBut s (changed_by new after) before o

-- what a role requires of the records
abbrev pub Logs : Role → Event → List Change → LogKernel → Type 0
Logs Outside ev new c = Unit {0}
Logs (Within s progress) ev new c =
    LeadsBack s (objects_reserved progress s (event_footprint c.table ev c.now)) new
    (made ev c.now c.now) c.now
Logs (Commits s) ev new c = Unit {0}
Logs (Aborts s status) ev new c = Unit {0}

-- the content has the view, and what holds for every content holds for it
pub record IsNext (c : LogKernel) (V : View) : Type 0 where
  pub view : states_view (two_states_of c) ≡ V
  pub kept : OthersHoldNothing c → IsKept c
