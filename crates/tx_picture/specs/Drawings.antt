-- What there is to draw of a schedule, by the definitions of what its steps are answered and of who
-- is a member of which transaction. Own rules.
use Rattle.std.specs.Prelude.{ℕ, ◌+◌, Bool, true, false, List, [], ◌∷◌, ◌++◌, Option, Some, None, option_map, if◌then◌else◌, ◌==◌}
use Rattle.tx_base.specs.declared.names.Pid.{Pid}
use Rattle.tx_base.specs.declared.steps.Accepted.{Accepted}
use Rattle.tx_base.specs.declared.steps.Step.{Step}
use Rattle.tx_lines.specs.declared.read.header.Header.{Header}
use Rattle.tx_model.specs.Answer.{answer, is_running}
use Rattle.tx_model.specs.Events.{process_of}
use Rattle.tx_model.specs.Membership.{Role, Outside, Within, Commits, Aborts}
use Rattle.tx_model.specs.Schedules.{history_with}
use Rattle.tx_model.specs.State.{Process, State}
use Rattle.tx_model.specs.View.{View, present, role_on, view}
use Rattle.tx_picture.specs.Drawn.{Drawn}
use Rattle.tx_picture.specs.Passages.{passages_after, written_after}
use Rattle.tx_picture.specs.Spans.{followed_upto}
use Rattle.tx_picture.specs.Ties.{sent_to}
use Rattle.tx_picture.specs.Transfers.{access_of}
use Rattle.tx_picture.specs.Waits.{awaited, waits_of}
use Rattle.tx_picture.specs.declared.passages.Transfer.{Transfer}
use Rattle.tx_picture.specs.declared.spans.End.{End}
use Rattle.tx_picture.specs.declared.spans.Stretch.{Stretch}
use Rattle.tx_picture.specs.declared.spans.Stretch.TheVariants.{Lane, Strip}
use Rattle.tx_script.specs.Report.{start_of, start_state}

-- the process itself, where it runs
abbrev pub runner : ℕ → Option Process → Option Pid
runner p process = if is_running process then Some (record { 0 = p }) else None

abbrev pub runners : View → ℕ → Option Pid
runners V p = runner p ((present V).procs p)

-- the starter of the transaction that it is a member of
abbrev pub members : View → ℕ → Option Pid
members V p = option_map (λ m. m.starter) (V.table.marks p)

-- whose a stretch of a process is: a lane its own, and a strip that of the starter of its
-- transaction
abbrev pub holders : Stretch → View → ℕ → Option Pid
holders Lane V = runners V
holders Strip V = members V

-- the starter of the one transaction, unless the other is the same
abbrev pub unless_same : Option Pid → Option Pid → Option Pid
unless_same None other = None
unless_same (Some starter) None = Some starter
unless_same (Some starter) (Some other) = if other.0 == starter.0 then None else Some starter

-- the starter whose transaction holds a signal from process p to a target: p is a member, and the
-- target is none
abbrev pub held_by : View → ℕ → Option Pid → Option Pid
held_by V p None = None
held_by V p (Some target) = unless_same (members V p) (members V target.0)

-- the starter whose transaction holds the signal that a step sends
abbrev pub holder_of : View → Step → Option Pid
holder_of V step = held_by V (process_of step) (sent_to step)

-- the step of a row, as pipes see it
abbrev pub transfer_of : View → Step → ℕ → Transfer
transfer_of V step row = record {
  process = record { 0 = process_of step };
  row = row;
  starter = members V (process_of step);
  access = access_of (present V) step;
}

-- whether a step of that role aborts its transaction
abbrev pub is_abort : Role → Bool
is_abort Outside = false
is_abort (Within s progress) = false
is_abort (Commits s) = false
is_abort (Aborts s status) = true

-- where the stretches end that the step of a row ends
abbrev pub ending : View → Step → ℕ → End
ending V step row = record { row = row; aborted = is_abort (role_on V step) }

-- one row more, whose step leads from one view to another: to the same where it waits
abbrev pub drawn_with : View → Step → ℕ → View → Drawn → Drawn
drawn_with V step row W drawn = record {
  before = drawn.before;
  rows =
      drawn.rows ++ record { step = step; reply = answer V step; holder = holder_of V step } ∷ [];
  lanes = followed_upto (runners W) (ending V step row) W.table.width drawn.lanes;
  strips = followed_upto (members W) (ending V step row) W.table.width drawn.strips;
  written = written_after (transfer_of V step row) (answer V step) drawn.written;
  passages = passages_after (transfer_of V step row) (answer V step) drawn.written drawn.passages;
  waits = drawn.waits ++ waits_of row (process_of step) (awaited W step (answer V step));
}

module _ (S : State) where
  -- the steps that follow a history, the first of them in that row
  unfoldable pub drawn_from : List Accepted → List Step → ℕ → Drawn → Drawn
  drawn_from h [] row drawn = drawn
  drawn_from h (step ∷ steps) row drawn =
      let later = history_with h step (answer (view S h) step) in
      drawn_from later steps (row + 1) (drawn_with (view S h) step row (view S later) drawn)

-- before the first step
abbrev pub first_drawn : View → Drawn
first_drawn V = record {
  before = 0;
  rows = [];
  lanes = followed_upto (runners V) (record { row = 0; aborted = false }) V.table.width [];
  strips = [];
  written = [];
  passages = [];
  waits = [];
}

-- the whole schedule
abbrev pub drawing_of : Header → List Step → Drawn
drawing_of header steps = drawn_from (start_state header) [] steps 1 (first_drawn (start_of header))
