-- A kernel with two states, and an owner for each object: each object as it is, and as it would be
-- without its owner's transaction. Own rules.
use Rattle.std.specs.Prelude.{ℕ, Bool, false, List, Option, Some, None, is_none, if◌then◌else◌, ◌==◌}
use Rattle.tx_model.specs.State.{State, Object, Proc, Desc, Pipe, Held, has_object}
use Rattle.tx_model.specs.Effects.{send_answers, after_effect}
use Rattle.tx_model.specs.Events.{Event, effect}
use Rattle.tx_model.specs.Membership.{Table, Role, Outside, Within, Commits, Aborts, table_after}
use Rattle.tx_model.specs.History.{Starters, just, event_footprint, objects_reserved}
use Rattle.tx_model.specs.View.{View}

pub record TwoStates : Type 0 where
  pub now : State
  pub kept : State
  pub owner : Object → Option ℕ
  pub table : Table

abbrev pub in_set : Starters → Option ℕ → Bool
in_set X None = false
in_set X (Some s) = X s

abbrev pub is_owner : ℕ → Option ℕ → Bool
is_owner s None = false
is_owner s (Some t) = t == s

-- at each object the first state or the second; the width is that of the second
abbrev pub pick : (Object → Bool) → State → State → State
pick P S R = record {
  width = R.width;
  procs = λ n. if P (Proc n) then S.procs n else R.procs n;
  descs = λ n. if P (Desc n) then S.descs n else R.descs n;
  pipes = λ n. if P (Pipe n) then S.pipes n else R.pipes n;
  held = λ n. if P (Held n) then S.held n else R.held n;
}

-- the state without the transactions of X
abbrev pub states_without : TwoStates → Starters → State
states_without c X = pick (λ o. in_set X (c.owner o)) c.kept c.now

unfoldable pub states_view : TwoStates → View
states_view c =
    record { without = states_without c; table = c.table; reserved = λ s o. is_owner s (c.owner o) }

abbrev pub freed : ℕ → Option ℕ → Option ℕ
freed s None = None
freed s (Some t) = if t == s then None else Some t

-- the event as it is made on a state
abbrev pub made : Event → State → State → State
made ev S R = after_effect (effect ev S) (send_answers (effect ev S) S) R

-- from now on the starter owns every object of the list, kept as it is now if nobody owned it
abbrev pub with_reserved : ℕ → List Object → Event → Table → TwoStates → TwoStates
with_reserved s F ev table c = record {
  now = made ev c.now c.now;
  kept = pick (λ o. if has_object o F then is_none (c.owner o) else false) c.now c.kept;
  owner = λ o. if has_object o F then Some s else c.owner o;
  table = table;
}

-- the event is made on both sides, as it is on S
abbrev pub on_both : Event → State → TwoStates → (Object → Option ℕ) → Table → TwoStates
on_both ev S c owner table =
    record { now = made ev S S; kept = made ev S c.kept; owner = owner; table = table }

-- the kernel after a step of process p in this role
unfoldable pub states_next : Role → Event → ℕ → TwoStates → TwoStates
states_next Outside ev p c = on_both ev c.now c c.owner (table_after Outside p c.table)
states_next (Within s progress) ev p c =
    with_reserved s (objects_reserved progress s (event_footprint c.table ev c.now)) ev
    (table_after (Within s progress) p c.table) c
states_next (Commits s) ev p c =
    on_both ev c.now c (λ o. freed s (c.owner o)) (table_after (Commits s) p c.table)
states_next (Aborts s status) ev p c =
    on_both ev (states_without c (just s)) c (λ o. freed s (c.owner o))
    (table_after (Aborts s status) p c.table)
