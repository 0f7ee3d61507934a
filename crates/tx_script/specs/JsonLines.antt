-- The lines of JSON that answer a schedule, or commands on it: functions of the history of the
-- schedule.
use Rattle.std.specs.Prelude.{ℕ, List, [], ◌∷◌, ◌++◌, codes, length}
use Rattle.json.specs.Print.{print}
use Rattle.json.specs.Token.{Token}
use Rattle.tx_base.specs.declared.steps.Accepted.{Accepted}
use Rattle.tx_base.specs.declared.steps.Step.{Step}
use Rattle.tx_journal.specs.Moved.{Moving}
use Rattle.tx_json.specs.Answers.{lines_with, state_answer, step_answer}
use Rattle.tx_json.specs.Each.{each_tokens}
use Rattle.tx_json.specs.Lists.{count_item}
use Rattle.tx_json.specs.Members.{flag_member, list_member, null_member}
use Rattle.tx_lines.specs.declared.read.command.Command.{Command}
use Rattle.tx_lines.specs.declared.read.command.Command.TheVariants as commands
use Rattle.tx_lines.specs.declared.read.header.Header.{Header}
use Rattle.tx_model.specs.Answer.{answer}
use Rattle.tx_model.specs.Schedules.{history_of, history_with}
use Rattle.tx_model.specs.State.{State}
use Rattle.tx_model.specs.View.{view}
use Rattle.tx_script.specs.Debug.{command_answer, command_response, moves, no_commit, position_after, response_text, the_state, view_at, Responded, Writing}
use Rattle.tx_script.specs.Report.{start_state}
use Rattle.tx_script.specs.declared.forms.Form.{Form}
use Rattle.tx_script.specs.declared.forms.Form.TheVariants.{Text, Json}

-- a line: the JSON of its tokens, and a line's end
abbrev pub line_of : List Token → List ℕ
line_of tokens = print tokens ++ 10 ∷ []

-- some lines, one after another
unfoldable pub text_of : List (List Token) → List ℕ
text_of [] = []
text_of (line ∷ lines) = line_of line ++ text_of lines

-- the answer to each step, on the history before it; where it is accepted its number is that of the
-- steps accepted so far
unfoldable pub step_lines : State → List Accepted → List Step → List (List Token)
step_lines start earlier [] = []
step_lines start earlier (step ∷ steps) =
    let reply = answer (view start earlier) step in
    let history = history_with earlier step reply in
    step_answer (length history) reply ∷ step_lines start history steps

-- whether a transaction may count as one moment, and the entries with its steps together
abbrev pub moved_members : Moving → List Token
moved_members moved =
    flag_member (codes "one_moment") moved.one_moment
    ++ list_member (codes "entries") (each_tokens count_item moved.numbers)

-- what JSON has of a response after the lines of its text
abbrev pub response_members : Responded → List Token
response_members (moves moved) = moved_members moved
response_members no_commit = null_member (codes "entries")
response_members response = []

-- a response, at the position to which the command led: that and the state there; or else that, the
-- lines of its text, and those members
abbrev pub response_line : State → List Accepted → ℕ → Responded → List Token
response_line start history at the_state = state_answer at (view_at start history at)
response_line start history at response =
    lines_with at (response_text start history at response) (response_members response)

-- the answer to a command at a position
abbrev pub command_line : State → List Accepted → ℕ → Command → List Token
command_line start history at command =
    response_line start history (position_after history at command)
    (command_response start history at command)

-- that line
abbrev pub json_answer : Writing
json_answer start history at command = line_of (command_line start history at command)

-- how a form writes the answer to a command
abbrev pub written_in : Form → Writing
written_in Text = command_answer
written_in Json = json_answer

-- a schedule: the answer to each step in turn, and then the state of the history that all leave
abbrev pub schedule_lines : Header → List Step → List (List Token)
schedule_lines header steps =
    let start = start_state header in
    let history = history_of start [] steps in
    step_lines start [] steps ++ command_line start history (length history) commands.State ∷ []
