-- The report of a schedule: the answer to each step, and the state that the last one leaves.
use Rattle.std.specs.Prelude.{ℕ, ◌+◌, List, [], ◌∷◌, ◌++◌}
use Rattle.std.specs.Fmt.{decimal}
use Rattle.tx_base.specs.declared.steps.Reply.{Reply}
use Rattle.tx_base.specs.declared.steps.Step.{Step}
use Rattle.tx_model.specs.Schedules.{answers_of, history_of}
use Rattle.tx_model.specs.State.{State, boot_state}
use Rattle.tx_model.specs.View.{View, view}
use Rattle.tx_lines.specs.declared.read.header.Header.{Header}
use Rattle.tx_lines.specs.Lines.{most_of}
use Rattle.tx_state_text.specs.Replies.{reply_text}
use Rattle.tx_state_text.specs.State.{state_text}

-- the state at the start
abbrev pub start_state : Header → State
start_state header = boot_state (most_of header.version) header.count

-- the view at the start
abbrev pub start_of : Header → View
start_of header = view (start_state header) []

-- the line of a step's reply
abbrev pub line_text : ℕ → Reply → List ℕ
line_text number reply = decimal number ++ 32 ∷ (reply_text reply ++ 10 ∷ [])

-- the lines of some replies, from that number on
abbrev pub lines_text : ℕ → List Reply → List ℕ
lines_text number [] = []
lines_text number (reply ∷ replies) = line_text number reply ++ lines_text (number + 1) replies

-- the view of the history that all steps leave
abbrev pub last_view : Header → List Step → View
last_view header steps = view (start_state header) (history_of (start_state header) [] steps)

-- the whole report: the answer to each step in turn, each on the history before it, and the state
-- of the history that all leave
abbrev pub report_text : Header → List Step → List ℕ
report_text header steps =
    lines_text 1 (answers_of (start_state header) [] steps) ++ state_text (last_view header steps)
