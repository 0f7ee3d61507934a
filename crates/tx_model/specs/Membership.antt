-- Who is in which transaction, and what a step is to the transactions. Own rules.
use Rattle.std.specs.Prelude.{ℕ, zero, suc, Bool, true, false, pos, Option, Some, None, if◌then◌else◌, ◌==◌}
use Rattle.tx_base.specs.declared.limits.TheConstants.{ABORTED_BY_CALL}
use Rattle.tx_base.specs.declared.marks.Mark.{Mark}
use Rattle.tx_base.specs.declared.steps.Step.{Step}
use Rattle.tx_base.specs.declared.steps.Step.TheVariants.{KernelAbort}
use Rattle.tx_base.specs.declared.steps.Reply.{Reply}
use Rattle.tx_base.specs.declared.steps.Reply.TheVariants.{Ended, Committed, Aborted}
pub use Rattle.tx_model.specs.Forms.{Kind, Ordinary, Forking, Beginning, Leaving, Aborting}
use Rattle.tx_base.specs.declared.errors.Errno.TheVariants.{InvalidArgument}
use Rattle.tx_model.specs.Numbers.{error_answer, negative}
use Rattle.tx_model.specs.Forms.{◌or◌, ◌>>=◌}
use Rattle.tx_model.specs.State.{put_at}
use Rattle.tx_model.specs.Effects.{Inside}
use Rattle.tx_model.specs.Events.{Event, Do, Note, Commit, process_of, page_of_step}

-- the marks of the members of live transactions, by process number
pub record Table : Type 0 where
  -- the greatest process number
  pub width : ℕ
  pub marks : ℕ → Option Mark

abbrev pub empty_table : ℕ → Table
empty_table width = record { width = width; marks = λ n. None }

abbrev pub is_of : ℕ → Option Mark → Bool
is_of s None = false
is_of s (Some m) = m.starter.0 == s

abbrev pub is_open_of : ℕ → Option Mark → Bool
is_open_of s None = false
is_open_of s (Some m) = if m.ended then false else m.starter.0 == s

-- what a step inside a transaction does to the table
pub data Progress : Type 0 where
  Continues : Progress
  -- the member ends its part
  Parks : Progress
  -- the member forks a child, which joins
  Forks : ℕ → Progress
  -- it is the first step; whether the transaction defers deliveries
  Begins : Bool → Progress

-- what a step is to the transactions
pub data Role : Type 0 where
  Outside : Role
  -- of the transaction of this starter, which goes on
  Within : ℕ → Progress → Role
  -- it ends the last member's part
  Commits : ℕ → Role
  -- with this status
  Aborts : ℕ → ℕ → Role

abbrev pub says_ended : Reply → Bool
says_ended Ended = true
says_ended (Committed undelivered) = true
says_ended reply = false

abbrev pub status_in : Reply → ℕ
status_in (Aborted status) = status
status_in reply = 0

abbrev pub outside_role : ℕ → Kind → Role
outside_role p (Beginning defers) = Within p (Begins defers)
outside_role p kind = Outside

abbrev pub event_in : Role → Event → Event
event_in (Commits s) ev = Commit s ev
event_in other ev = ev

module _ (t : Table) where
  abbrev pub is_member_of : ℕ → ℕ → Bool
  is_member_of s p = is_of s (t.marks p)

  -- a transaction's starter is a member all along
  abbrev pub is_live : ℕ → Bool
  is_live s = is_of s (t.marks s)

  -- whether a member other than p, of a number up to n, has not ended its part
  unfoldable pub others_open : ℕ → ℕ → ℕ → Bool
  others_open s p zero = false
  others_open s p (suc n) =
      if others_open s p n
      then true
      else (if suc n == p then false else is_open_of s (t.marks (suc n)))

  abbrev pub inside_by : Option Mark → Option Inside
  inside_by None = None
  inside_by (Some m) =
      Some (record { starter = m.starter.0; members = is_member_of m.starter.0; defers = m.defers })

  -- the member p ends its part: the last one commits
  abbrev pub member_end : ℕ → ℕ → Role
  member_end s p = if others_open s p t.width then Within s Parks else Commits s

  abbrev pub member_role : ℕ → ℕ → Kind → Reply → Role
  member_role s p Ordinary r = if says_ended r then member_end s p else Within s Continues
  member_role s p (Forking c) r = Within s (Forks c)
  member_role s p (Beginning defers) r = Within s Continues
  member_role s p Leaving r = member_end s p
  member_role s p Aborting r = Aborts s ABORTED_BY_CALL

  abbrev pub role : Step → Reply → Role
  role (KernelAbort s) r = Aborts s.0 (status_in r)
  role step r = do
    m ← t.marks (process_of step) or outside_role (process_of step) (page_of_step step).kind
    member_role m.starter.0 (process_of step) (page_of_step step).kind r

  -- the event that stands for a step, its commit apart. Where a call means nothing its process is
  -- given the error; at an abort its starter is given the status
  abbrev pub kind_event : ℕ → Step → Kind → Option Mark → Event
  kind_event p step (Beginning defers) None = Note p (pos 0)
  kind_event p step (Beginning defers) (Some m) = Note p (error_answer InvalidArgument)
  kind_event p step Leaving None = Note p (error_answer InvalidArgument)
  kind_event p step Leaving (Some m) = Note p (pos 0)
  kind_event p step Aborting None = Note p (error_answer InvalidArgument)
  kind_event p step Aborting (Some m) = Note m.starter.0 (negative ABORTED_BY_CALL)
  kind_event p step kind mark = Do step (inside_by mark)

  -- of a call or a delivery
  abbrev pub requested_event : Step → Event
  requested_event step =
      kind_event (process_of step) step (page_of_step step).kind (t.marks (process_of step))

  abbrev pub step_event : Step → Reply → Event
  step_event (KernelAbort s) r = Note s.0 (negative (status_in r))
  step_event step r = requested_event step

  abbrev pub event : Step → Reply → Event
  event step r = event_in (role step r) (step_event step r)

abbrev pub parked_mark : Option Mark → Option Mark
parked_mark None = None
parked_mark (Some m) = Some (record m { ended = true })

abbrev pub defers_in : Option Mark → Bool
defers_in None = false
defers_in (Some m) = m.defers

abbrev pub new_mark : ℕ → Bool → Mark
new_mark s defers = record { starter = record { 0 = s }; ended = false; defers = defers }

abbrev pub mark_unless_of : ℕ → Option Mark → Option Mark
mark_unless_of s None = None
mark_unless_of s (Some m) = if m.starter.0 == s then None else Some m

-- after a step of process p that is so to the transactions
abbrev pub marks_after : Role → ℕ → (ℕ → Option Mark) → ℕ → Option Mark
marks_after Outside p marks = marks
marks_after (Within s Continues) p marks = marks
marks_after (Within s Parks) p marks = put_at marks p (parked_mark (marks p))
marks_after (Within s (Forks c)) p marks = put_at marks c (Some (new_mark s (defers_in (marks s))))
marks_after (Within s (Begins defers)) p marks = put_at marks s (Some (new_mark s defers))
marks_after (Commits s) p marks = λ n. mark_unless_of s (marks n)
marks_after (Aborts s status) p marks = λ n. mark_unless_of s (marks n)

abbrev pub table_after : Role → ℕ → Table → Table
table_after r p t = record t { marks = marks_after r p t.marks }
