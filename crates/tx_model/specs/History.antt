-- Histories, the newest accepted step first, and what is left of them without some transactions.
-- Own rules.
use Rattle.std.specs.Prelude.{ℕ, Bool, true, false, not, List, [], ◌∷◌, ◌++◌, if◌then◌else◌, ◌==◌}
use Rattle.tx_base.specs.declared.steps.Accepted.{Accepted}
use Rattle.tx_model.specs.State.{State, Sending, Object, Proc, Held, has_object}
use Rattle.tx_model.specs.Events.{Event, process_of, actor, effect, objects, run}
use Rattle.tx_model.specs.Membership.{Table, empty_table, is_member_of, is_live, Begins, Progress, Role, Outside, Within, Commits, Aborts, role, event, table_after}

-- a set of starters: a live transaction is named by the number of its starter
abbrev pub Starters : Type 0
Starters = ℕ → Bool

abbrev pub nobody : Starters
nobody n = false

abbrev pub just : ℕ → Starters
just s n = n == s

-- whose transactions are left out before a step, when those of X are left out after it: an aborted
-- one is left out back to its begin, a committed one is kept back to its begin
abbrev pub left_out_before : Role → Starters → Starters
left_out_before (Commits s) X = λ n. if n == s then false else X n
left_out_before (Aborts s status) X = λ n. if n == s then true else X n
left_out_before other X = X

-- whether a step is left in
abbrev pub is_left_in : Role → Starters → Bool
is_left_in (Within s progress) X = not (X s)
is_left_in other X = true

module _ (S : State) where
  unfoldable pub table_of : List Accepted → Table
  table_of [] = empty_table S.width
  table_of (e ∷ h) = table_after (role (table_of h) e.step e.reply) (process_of e.step) (table_of h)

  abbrev pub role_in : Accepted → List Accepted → Role
  role_in e h = role (table_of h) e.step e.reply

  abbrev pub event_of : Accepted → List Accepted → Event
  event_of e h = event (table_of h) e.step e.reply

  -- what is left of the history without the live transactions of X, and without those that were
  -- aborted
  unfoldable pub survivors : Starters → List Accepted → List Event
  survivors X [] = []
  survivors X (e ∷ h) =
      let before = survivors (left_out_before (role_in e h) X) h in
      if is_left_in (role_in e h) X then event_of e h ∷ before else before

  unfoldable pub without : Starters → List Accepted → State
  without X h = run S (survivors X h)

module _ (t : Table) where
  -- of a live transaction that p is no member of
  abbrev pub is_other_starter : ℕ → ℕ → Bool
  is_other_starter p n = if is_live t n then not (is_member_of t n p) else false

  -- of posts, except the starters of other transactions
  unfoldable pub targets : ℕ → List Sending → List Object
  targets p [] = []
  targets p (m ∷ ms) =
      if is_other_starter p m.target then targets p ms else Proc m.target ∷ targets p ms

  -- what an event names, and the targets of its posts
  unfoldable pub event_footprint : Event → State → List Object
  event_footprint ev S = objects ev S ++ targets (actor ev) (effect ev S).sends

-- a transaction's first step takes its held sends too
abbrev pub objects_reserved : Progress → ℕ → List Object → List Object
objects_reserved (Begins defers) s F = Held s ∷ F
objects_reserved progress s F = F

abbrev pub reserved_after : Role → List Object → (ℕ → Object → Bool) → ℕ → Object → Bool
reserved_after Outside F reserved s o = reserved s o
reserved_after (Within p progress) F reserved s o =
    if s == p
    then (if has_object o (objects_reserved progress p F) then true else reserved s o)
    else reserved s o
reserved_after (Commits p) F reserved s o = if s == p then false else reserved s o
reserved_after (Aborts p status) F reserved s o = if s == p then false else reserved s o

-- what the steps of the live transaction of s reserved, each in the state before it
unfoldable pub reserved_of : State → List Accepted → ℕ → Object → Bool
reserved_of S [] s o = false
reserved_of S (e ∷ h) s o =
    reserved_after (role_in S e h)
    (event_footprint (table_of S h) (event_of S e h) (without S nobody h)) (reserved_of S h) s o
