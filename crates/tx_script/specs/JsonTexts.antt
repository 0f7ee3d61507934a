-- The texts with an answer as JSON: schedules, and schedules with commands.
use Rattle.std.specs.Prelude.{List, ℕ, Option, Some, None}
use Rattle.tx_base.specs.declared.steps.Step.{Step}
use Rattle.tx_check.specs.Kinds.{kind_of}
use Rattle.tx_check.specs.declared.kinds.Kind.{Kind}
use Rattle.tx_check.specs.declared.kinds.Kind.TheVariants as kinds
use Rattle.tx_lines.specs.Schedule.{schedule_text, IsFaultOf, IsSchedule}
use Rattle.tx_lines.specs.Walks.{walk_text, IsWalk, IsWalkFault}
use Rattle.tx_lines.specs.declared.faults.Fault.{Fault}
use Rattle.tx_lines.specs.declared.read.command.Command.{Command}
use Rattle.tx_lines.specs.declared.read.header.Header.{Header}
use Rattle.tx_script.specs.Debug.{walk_answers}
use Rattle.tx_script.specs.JsonLines.{json_answer, schedule_lines, text_of}
use Rattle.tx_script.specs.Grammars.{Grammar}

-- a header and steps, and commands where the text has some
abbrev pub Spelled : Type 0
Spelled = Header × List Step × Option (List Command)

abbrev pub IsText : Header → List Step → Option (List Command) → Type 0
IsText header steps None = IsSchedule header steps
IsText header steps (Some commands) = IsWalk header steps commands

abbrev pub spelling : Header → List Step → Option (List Command) → List ℕ
spelling header steps None = schedule_text header steps
spelling header steps (Some commands) = walk_text header steps commands

abbrev pub answer_of : Header → List Step → Option (List Command) → List ℕ
answer_of header steps None = text_of (schedule_lines header steps)
answer_of header steps (Some commands) = walk_answers json_answer header steps commands

-- a text with the line before commands is at fault as one with commands, and any other as a
-- schedule
abbrev pub IsFaultAs : Kind → List ℕ → Fault → Type 0
IsFaultAs kinds.Walk text fault = IsWalkFault text fault
IsFaultAs kinds.Schedule text fault = IsFaultOf text fault
IsFaultAs kinds.Program text fault = IsFaultOf text fault

-- answered by lines of JSON
abbrev pub texts : Grammar Spelled
texts = record {
  IsGood = λ spelled. IsText spelled.0 spelled.1 spelled.2;
  text = λ spelled. spelling spelled.0 spelled.1 spelled.2;
  IsFault = λ text fault. IsFaultAs (kind_of text) text fault;
  answer = λ spelled. answer_of spelled.0 spelled.1 spelled.2;
}
