-- The texts that the program answers: schedules, and schedules with commands.
use Rattle.std.specs.Prelude.{◌≡◌, List, ℕ, Result, Ok, Err, String, string_bytes}
use Rattle.tx_base.specs.declared.steps.Step.{Step}
use Rattle.tx_script.specs.Debug.{command_answer, walk_answers}
use Rattle.tx_script.specs.Report.{report_text}
use Rattle.tx_lines.specs.Schedule.{schedule_text, FaultsBy, IsFaultOf, IsSchedule}
use Rattle.tx_lines.specs.Walks.{walk_text, IsWalk, IsWalkFault}
use Rattle.tx_lines.specs.declared.faults.Fault.{Fault}
use Rattle.tx_lines.specs.declared.read.command.Command.{Command}
use Rattle.tx_lines.specs.declared.read.header.Header.{Header}
use Rattle.tx_translate.specs.Meant.{meant_of, IsOwnFault}

-- what texts of a kind spell, and how; where a text that is none is at fault; and what answers a
-- text
pub record Grammar (A : Type 0) : Type 1 where
  pub IsGood : A → Type 0
  pub text : A → List ℕ
  pub IsFault : List ℕ → Fault → Type 0
  pub answer : A → List ℕ

-- a header and steps, answered by their report
abbrev pub schedules : Grammar (Header × List Step)
schedules = record {
  IsGood = λ spelled. IsSchedule spelled.0 spelled.1;
  text = λ spelled. schedule_text spelled.0 spelled.1;
  IsFault = IsFaultOf;
  answer = λ spelled. report_text spelled.0 spelled.1;
}

-- a header, steps and commands, answered by what the commands answer
abbrev pub walks : Grammar (Header × List Step × List Command)
walks = record {
  IsGood = λ spelled. IsWalk spelled.0 spelled.1 spelled.2;
  text = λ spelled. walk_text spelled.0 spelled.1 spelled.2;
  IsFault = IsWalkFault;
  answer = λ spelled. walk_answers command_answer spelled.0 spelled.1 spelled.2;
}

-- the answer to what a text spells, or means by another text, or the text's fault
abbrev pub AnswersText : {A B : Type 0} → Grammar A → List ℕ → Result (String B) Fault → Type 0
AnswersText {A} G text (Ok answer) =
    (spelled : A)
    × G.IsGood spelled
    × (meant_of text ≡ G.text spelled)
    × (string_bytes answer ≡ G.answer spelled)
AnswersText G text (Err fault) = FaultsBy (IsOwnFault G.IsFault text) fault
