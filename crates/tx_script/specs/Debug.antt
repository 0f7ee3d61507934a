-- What the commands of a debugger respond, and its text: functions only of the history of the
-- schedule and of the position.
use Rattle.std.specs.Prelude.{ℕ, zero, suc, ◌+◌, List, [], ◌∷◌, ◌++◌, Option, Some, None, length, nat_le, nat_lt, reverse, take, codes, if◌then◌else◌}
use Rattle.std.specs.Fmt.{decimal}
use Rattle.tx_base.specs.declared.steps.Accepted.{Accepted}
use Rattle.tx_base.specs.declared.steps.Step.{Step}
use Rattle.tx_journal.specs.Moved.{Moving, moved_at, moving_in}
use Rattle.tx_model.specs.Schedules.{history_of}
use Rattle.tx_model.specs.State.{State as Start}
use Rattle.tx_model.specs.View.{View, view}
use Rattle.tx_script.specs.Report.{start_state}
use Rattle.tx_script.specs.declared.responses.Response.{Response}
use Rattle.tx_script.specs.declared.responses.Response.TheVariants as responses
use Rattle.tx_lines.specs.declared.read.command.Command.{Command}
use Rattle.tx_lines.specs.declared.read.command.Command.TheVariants.{Back, Forward, Goto, State, Moved}
use Rattle.tx_lines.specs.declared.read.header.Header.{Header}
use Rattle.tx_lines.specs.Lists.{list_text}
use Rattle.tx_state_text.specs.State.{state_text}

-- the first so many steps of a history, the newest first
abbrev pub first_steps : ℕ → List Accepted → List Accepted
first_steps at history = reverse (take at (reverse history))

-- what is shown at a position: the view of the steps before it
abbrev pub view_at : Start → List Accepted → ℕ → View
view_at start history at = view start (first_steps at history)

-- the line of a position
abbrev pub position_text : ℕ → List ℕ
position_text at = codes "at " ++ (decimal at ++ codes "\n")

-- the line of a history in which the steps of a transaction are together
abbrev pub moved_line : Moving → List ℕ
moved_line moved =
    (if moved.one_moment then codes "moved one " else codes "moved many ")
    ++ (list_text moved.numbers ++ codes "\n")

-- what a command responds once it is done
pub data Responded : Type 0 where
  -- the position, and the state there
  at_position : Responded
  the_state : Responded
  -- there is no entry to take back, none to make again, no such position
  no_start : Responded
  no_end : Responded
  no_place : Responded
  -- the history with the steps of a transaction together, or that none is committed
  moves : Moving → Responded
  no_commit : Responded

-- what a response says
abbrev pub responded_in : Response → Responded
responded_in responses.Position = at_position
responded_in responses.State = the_state
responded_in responses.NoStart = no_start
responded_in responses.NoEnd = no_end
responded_in responses.NoPlace = no_place
responded_in (responses.Moved moved) = moves (moving_in moved.value)
responded_in responses.NoCommit = no_commit

-- the response about an entry
abbrev pub commit_response : Option Moving → Responded
commit_response None = no_commit
commit_response (Some moved) = moves moved

-- what a command at a position responds
abbrev pub command_response : Start → List Accepted → ℕ → Command → Responded
command_response start history zero Back = no_start
command_response start history (suc at) Back = at_position
command_response start history at Forward =
    if nat_lt at (length history) then at_position else no_end
command_response start history at (Goto to) =
    if nat_le to (length history) then at_position else no_place
command_response start history at State = the_state
command_response start history at (Moved number) = commit_response (moved_at start history number)

-- the position after a command
abbrev pub position_after : List Accepted → ℕ → Command → ℕ
position_after history zero Back = zero
position_after history (suc at) Back = at
position_after history at Forward = if nat_lt at (length history) then at + 1 else at
position_after history at (Goto to) = if nat_le to (length history) then to else at
position_after history at State = at
position_after history at (Moved number) = at

-- a response as text, at the position to which the command led
abbrev pub response_text : Start → List Accepted → ℕ → Responded → List ℕ
response_text start history at at_position = position_text at
response_text start history at the_state = state_text (view_at start history at)
response_text start history at no_start = codes "no start\n"
response_text start history at no_end = codes "no end\n"
response_text start history at no_place = codes "no place\n"
response_text start history at (moves moved) = moved_line moved
response_text start history at no_commit = codes "no commit\n"

-- how the answer to a command at a position is written
abbrev pub Writing : Type 0
Writing = Start → List Accepted → ℕ → Command → List ℕ

-- as text
abbrev pub command_answer : Writing
command_answer start history at command =
    response_text start history (position_after history at command)
    (command_response start history at command)

-- what some commands answer in turn, from a position on
abbrev pub answers_at : Writing → Start → List Accepted → ℕ → List Command → List ℕ
answers_at written start history at [] = []
answers_at written start history at (command ∷ commands) =
    written start history at command
    ++ answers_at written start history (position_after history at command) commands

-- what the commands of a text answer, of which the first is at the end of the schedule's history
abbrev pub walk_answers : Writing → Header → List Step → List Command → List ℕ
walk_answers written header steps commands =
    let history = history_of (start_state header) [] steps in
    answers_at written (start_state header) history (length history) commands
