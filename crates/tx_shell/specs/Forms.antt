-- How each form prints answers.
use Rattle.std.specs.Prelude.{◌≡◌, ℕ, Bool, false, true, List, [], ◌∷◌, ◌++◌, ◌≤◌, IfSome, None, Some, codes, option_map, string_bytes, if◌then◌else◌}
use Rattle.json.specs.Token.{Token}
use Rattle.tx_base.specs.declared.steps.Accepted.{Accepted}
use Rattle.tx_base.specs.declared.steps.Reply.{Reply}
use Rattle.tx_check.specs.Sessions.{IsSessionDiagnostic}
use Rattle.tx_json.specs.Answers.{empty_answer, error_answer, position_answer, step_answer, lines_with, trial_answer}
use Rattle.tx_json.specs.Line.{IsLineOf}
use Rattle.tx_json.specs.Members.{count_member, null_member}
use Rattle.tx_model.specs.Schedules.{history_of}
use Rattle.tx_model.specs.State.{State}
use Rattle.tx_model.specs.View.{view}
use Rattle.tx_script.specs.Debug.{first_steps, position_text, responded_in, response_text}
use Rattle.tx_script.specs.JsonLines.{response_line}
use Rattle.tx_shell.specs.Attempts.{child_member}
use Rattle.tx_shell.specs.Changes.{ReportsFound}
use Rattle.tx_shell.specs.Held.{desc_held, desc_members, desc_text, pipe_held, pipe_members, pipe_text}
use Rattle.tx_shell.specs.Journals.{schedule_so_far, steps_listed, steps_made}
use Rattle.tx_shell.specs.Members.{change_member, compared_members, not_compared_members, owner_member, owners_member, steps_member, why_members}
use Rattle.tx_shell.specs.Names.{names_member, Names}
use Rattle.tx_shell.specs.Origins.{Origin, start_in}
use Rattle.tx_shell.specs.Owners.{or_no_transaction, owner_line, owner_lines}
use Rattle.tx_shell.specs.Places.{Place}
use Rattle.tx_shell.specs.Whys.{ReportsWhy}
use Rattle.tx_shell.specs.declared.answers.answer.Answer.TheVariants as answers
use Rattle.tx_shell.specs.declared.answers.answer.Answer.{Answer}
use Rattle.tx_script.specs.declared.forms.Form.TheVariants.{Text, Json}
use Rattle.tx_script.specs.declared.forms.Form.{Form}
use Rattle.tx_state_text.specs.Replies.{named_reply_text}

-- what is wrong with the line, between a mark and the line's end
pub record ReportsOf (line text : List ℕ) : Type 0 where
  pub report : List ℕ
  pub wrong : IsSessionDiagnostic line report
  pub says : text ≡ codes "? " ++ (report ++ 10 ∷ [])

-- the answer to a line without a word
abbrev pub SaysNothing : Form → List ℕ → Type 0
SaysNothing Text text = text ≡ []
SaysNothing Json text = IsLineOf empty_answer text

-- a position
abbrev pub SaysPosition : Form → ℕ → List ℕ → Type 0
SaysPosition Text at text = text ≡ position_text at
SaysPosition Json at text = IsLineOf (position_answer at) text

-- a reply, in text with the name of an error, in JSON after the number of the step where it was
-- accepted
abbrev pub SaysReply : Form → ℕ → Reply → List ℕ → Type 0
SaysReply Text number reply text = text ≡ named_reply_text reply ++ 10 ∷ []
SaysReply Json number reply text = IsLineOf (step_answer number reply) text

-- steps are ahead, and both ways out
abbrev pub SaysAhead : Form → List ℕ → Type 0
SaysAhead Text text = text ≡ codes "no: steps are ahead; cut drops them, forward makes them again\n"
SaysAhead Json text =
    IsLineOf (error_answer (codes "steps are ahead; cut drops them, forward makes them again")) text

-- what is wrong with a line
abbrev pub ReportsIn : Form → List ℕ → List ℕ → Type 0
ReportsIn Text line text = ReportsOf line text
ReportsIn Json line text =
    (report : List ℕ) × IsSessionDiagnostic line report × IsLineOf (error_answer report) text

-- a step that was found to change a piece is directly before the position
abbrev pub IsPlaced : ℕ → Answer → Type 0
IsPlaced at (answers.Change found) = IfSome found (λ change. 1 ≤ at)
IsPlaced at answer = Unit {0}

-- the text of a schedule whose steps lead, from the start, to the history up to the position
pub record PrintsSchedule (o : Origin) (p : Place) (text : List ℕ) : Type 0 where
  pub report : text ≡ schedule_so_far o p
  pub leads : history_of (start_in o) [] (steps_made p) ≡ first_steps p.at p.history

-- an answer as text, at a place up to which the steps of the history h are made, where processes
-- have those names
abbrev pub ReportsAnswer : Origin → Names → List Accepted → Place → Answer → List ℕ → Type 0
ReportsAnswer o names h p (answers.Walked response) text =
    text ≡ response_text (start_in o) p.history p.at (responded_in response)
ReportsAnswer o names h p answers.Position text = text ≡ position_text p.at
ReportsAnswer o names h p (answers.Steps first last) text = text ≡ steps_listed p first last
ReportsAnswer o names h p answers.Schedule text = PrintsSchedule o p text
ReportsAnswer o names h p (answers.Trial reply differences) text =
    text ≡ named_reply_text reply ++ 10 ∷ string_bytes differences
ReportsAnswer o names h p (answers.Without starter None) text = text ≡ codes "no transaction\n"
ReportsAnswer o names h p (answers.Without starter (Some differences)) text =
    text ≡ string_bytes differences
ReportsAnswer o names h p (answers.Diff from to None) text = text ≡ codes "no place\n"
ReportsAnswer o names h p (answers.Diff from to (Some differences)) text =
    text ≡ string_bytes differences
ReportsAnswer o names h p (answers.Change found) text = ReportsFound names p.history p.at found text
ReportsAnswer o names h p (answers.Why step reply attempt) text =
    ReportsWhy names (start_in o) h step attempt reply text
ReportsAnswer o names h p answers.NothingRefused text = text ≡ codes "nothing was refused\n"
ReportsAnswer o names h p answers.Owners text =
    text ≡ or_no_transaction (owner_lines names (view (start_in o) h))
ReportsAnswer o names h p (answers.OwnersOf starter) text =
    text ≡ or_no_transaction (owner_line names (view (start_in o) h) starter)
ReportsAnswer o names h p (answers.PipeHolders found) text =
    text ≡ pipe_text names (option_map pipe_held found)
ReportsAnswer o names h p (answers.DescHolders found) text =
    text ≡ desc_text names (option_map desc_held found)
ReportsAnswer o names h p (answers.Page page) text = text ≡ page.now

-- what JSON has of an answer after the lines of its text
abbrev pub answer_members : State → List Accepted → Place → Answer → List Token
answer_members start h p (answers.Steps first last) = steps_member p first last
answer_members start h p (answers.Without starter None) = null_member (codes "transaction")
answer_members start h p (answers.Without starter (Some differences)) =
    count_member (codes "transaction") starter
answer_members start h p (answers.Diff from to None) = not_compared_members
answer_members start h p (answers.Diff from to (Some differences)) = compared_members from to
answer_members start h p (answers.Change found) = change_member p found
answer_members start h p (answers.Why step reply attempt) =
    why_members start h step reply ++ child_member start h attempt
answer_members start h p answers.Owners = owners_member (view start h)
answer_members start h p (answers.OwnersOf starter) = owner_member (view start h) starter
answer_members start h p (answers.PipeHolders found) = pipe_members (option_map pipe_held found)
answer_members start h p (answers.DescHolders found) = desc_members (option_map desc_held found)
answer_members start h p answer = []

-- whether an answer shows the names of processes
abbrev pub shows_names : Answer → Bool
shows_names (answers.Change found) = true
shows_names (answers.Why step reply attempt) = true
shows_names answers.NothingRefused = true
shows_names answers.Owners = true
shows_names (answers.OwnersOf starter) = true
shows_names (answers.PipeHolders found) = true
shows_names (answers.DescHolders found) = true
shows_names answer = false

-- and the names, where it shows them
abbrev pub members_and_names : State → Names → List Accepted → Place → Answer → List Token
members_and_names start names h p answer =
    answer_members start h p answer ++ (if shows_names answer then names_member names else [])

-- the position, those lines, and that
pub record SaysLines (o : Origin) (names : Names) (h : List Accepted) (p : Place) (answer : Answer)
    (text : List ℕ) : Type 0 where
  pub report : List ℕ
  pub reports : ReportsAnswer o names h p answer report
  pub says :
      IsLineOf (lines_with p.at report (members_and_names (start_in o) names h p answer)) text

-- an answer as JSON: of a command of the debugger the line that a text for it has, of a trial the
-- reply and the lines that differ, of a cut the position, and of all else the lines of its text
abbrev pub SaysJson : Origin → Names → List Accepted → Place → Answer → List ℕ → Type 0
SaysJson o names h p (answers.Walked response) text =
    IsLineOf (response_line (start_in o) p.history p.at (responded_in response)) text
SaysJson o names h p answers.Position text = IsLineOf (position_answer p.at) text
SaysJson o names h p (answers.Trial reply differences) text =
    IsLineOf (trial_answer p.at reply (string_bytes differences)) text
SaysJson o names h p answer text = SaysLines o names h p answer text

-- an answer in a form
abbrev pub SaysAnswer : Form → Origin → Names → List Accepted → Place → Answer → List ℕ → Type 0
SaysAnswer Text o names h p answer text = ReportsAnswer o names h p answer text
SaysAnswer Json o names h p answer text = SaysJson o names h p answer text
