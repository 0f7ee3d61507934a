-- Which steps begin and end the boxes of a picture, by their roles in transactions and by their
-- answers. Own rules.
use Rattle.std.specs.Prelude.{◌≡◌, ◌≤◌, ◌==◌, ◌&&◌, ℕ, Bool, true, false, List, [], Option, Some, None, find, option_map}
use Rattle.tx_base.specs.declared.names.Pid.{Pid}
use Rattle.tx_base.specs.declared.steps.Reply.TheVariants.{Aborted, Committed}
use Rattle.tx_base.specs.declared.steps.Step.{Step}
use Rattle.tx_laws.specs.Sound.{IsSound}
use Rattle.tx_lines.specs.declared.read.header.Header.{Header}
use Rattle.tx_model.specs.Answer.{answer, IsAccepted}
use Rattle.tx_model.specs.Events.{process_of}
use Rattle.tx_model.specs.Membership.{Begins, Forks, Within, Commits, Aborts}
use Rattle.tx_model.specs.Schedules.{history_of}
use Rattle.tx_model.specs.View.{View, next, role_on, view}
use Rattle.tx_picture.specs.Drawings.{drawing_of, is_abort, members}
use Rattle.tx_picture.specs.Excerpts.{drawing_in, made_for, steps_before}
use Rattle.tx_picture.specs.Spans.{is_open_at}
use Rattle.tx_picture.specs.declared.excerpts.Excerpt.{Excerpt}
use Rattle.tx_picture.specs.declared.spans.Span.{Span}
use Rattle.tx_script.specs.Report.{start_state}

-- the step makes process p a member of the transaction of s: it is p's own sys_xbegin, or the fork
-- by which a member makes p
pub data Joins (V : View) (step : Step) (s p : ℕ) : Type 0 where
  begins : (defers : Bool) → role_on V step ≡ Within s (Begins defers) → p ≡ process_of step → s ≡ p
      → Joins V step s p
  forks : role_on V step ≡ Within s (Forks p) → Joins V step s p

-- the step ends the transaction of s, and is answered so; whether by an abort
pub data Ends (V : View) (step : Step) (s : ℕ) : Bool → Type 0 where
  commits : (undelivered : _) → role_on V step ≡ Commits s → answer V step ≡ Committed undelivered
      → Ends V step s false
  aborts : (status reported : ℕ) → role_on V step ≡ Aborts s status
      → answer V step ≡ Aborted reported → Ends V step s true

-- how a step changes the transaction that process p is a member of
abbrev pub Changes : View → Step → ℕ → Option Pid → Option Pid → Type 0
Changes V step p None None = Unit {0}
Changes V step p None (Some s) = Joins V step s.0 p
Changes V step p (Some s) None = Ends V step s.0 (is_abort (role_on V step))
Changes V step p (Some s) (Some other) = other ≡ s

-- only such a step makes a process a member; it is one until a step ends its transaction, and never
-- moves to another
abbrev pub MembersChange : Type 0
MembersChange =
    (V : View) (step : Step) (p : ℕ) → IsSound V → IsAccepted (answer V step)
    → Changes V step p (members V p) (members (next V step) p)

-- whom a step makes a member is one after it
abbrev pub JoinersAreMembers : Type 0
JoinersAreMembers =
    (V : View) (step : Step) (s p : ℕ) → Joins V step s p
    → members (next V step) p ≡ Some (record { 0 = s })

-- when a transaction ends, none is a member of it any more
abbrev pub EndedHaveNoMembers : Type 0
EndedHaveNoMembers =
    (V : View) (step : Step) (s p : ℕ) (aborted : Bool) → Ends V step s aborted
    → members V p ≡ Some (record { 0 = s }) → members (next V step) p ≡ None

-- the holder of the open box of process p
abbrev pub open_box : ℕ → List Span → Option Pid
open_box p strips = option_map (λ strip. strip.holder) (find (is_open_at p) strips)

-- the holder of the box of process p that begins at the top edge
abbrev pub is_at_top : ℕ → Span → Bool
is_at_top p strip = strip.from == 0 && strip.process.0 == p

abbrev pub box_at_top : ℕ → List Span → Option Pid
box_at_top p strips = option_map (λ strip. strip.holder) (find (is_at_top p) strips)

-- after a schedule the open box of a process is of the transaction that it is a member of then, and
-- it has none where it is none
abbrev pub OpenBoxesAreOfMembers : Type 0
OpenBoxesAreOfMembers =
    (header : Header) (steps : List Step) (p : ℕ) → 1 ≤ p → p ≤ (start_state header).width →
    open_box p (drawing_of header steps).strips
    ≡ members (view (start_state header) (history_of (start_state header) [] steps)) p

-- an excerpt begins with the boxes of those that are members before its first step
abbrev pub ExcerptsBeginWithMembers : Type 0
ExcerptsBeginWithMembers =
    (excerpt : Excerpt) (header : Header) (steps : List Step) (p : ℕ) → 1 ≤ p
    → p ≤ (start_state header).width →
    box_at_top p (drawing_in excerpt header steps).strips
    ≡ members
    (view (start_state header)
    (history_of (start_state header) [] (steps_before excerpt steps))) p

-- and its open boxes are of those that are members after its last one
abbrev pub ExcerptsEndWithMembers : Type 0
ExcerptsEndWithMembers =
    (excerpt : Excerpt) (header : Header) (steps : List Step) (p : ℕ) → 1 ≤ p
    → p ≤ (start_state header).width →
    open_box p (drawing_in excerpt header steps).strips
    ≡ members
    (view (start_state header) (history_of (start_state header) [] (made_for excerpt steps)))
    p
