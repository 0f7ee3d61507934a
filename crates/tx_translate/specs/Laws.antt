-- What a text of version 2 means as one of version 3.
use Rattle.std.specs.Prelude.{◌≡◌, ℕ, ◌+◌, ◌<◌, ◌≤◌, ◌^◌, true, List, ◌∷◌, ◌++◌, Some, length, codes, All}
use Rattle.std.specs.Fmt.{decimal}
use Rattle.tx_base.specs.declared.steps.Step.{Step}
use Rattle.tx_lines.specs.Programs.{line_text, program_text, IsLineOf}
use Rattle.tx_lines.specs.Lines.{step_text, FitsStep}
use Rattle.tx_lines.specs.Schedule.{first_line, lines_of, schedule_text, steps_text, FitsStepOf}
use Rattle.tx_lines.specs.Walks.{before_commands, command_text, walk_text, FitsCommand}
use Rattle.tx_lines.specs.declared.instructions.Line.{Line}
use Rattle.tx_lines.specs.declared.read.command.Command.{Command}
use Rattle.tx_lines.specs.declared.read.header.Header.{Header}
use Rattle.tx_lines.specs.declared.read.header.TextKind.{TextKind}
use Rattle.tx_lines.specs.declared.read.header.TextKind.TheVariants.{Schedule, Program}
use Rattle.tx_lines.specs.declared.read.header.Version.TheVariants.{Two}
use Rattle.tx_translate.specs.Lines.{plain_line}
use Rattle.tx_translate.specs.OwnLines.{own_lines, without_return}
use Rattle.tx_translate.specs.Plain.{is_third, line_in, plain_of}
use Rattle.tx_translate.specs.declared.stage.Stage.TheVariants.{Within}

-- the header of a text of version 3
abbrev pub third_header : TextKind → ℕ → List ℕ
third_header Schedule count = codes "txos 3 schedule " ++ decimal count
third_header Program count = codes "txos 3 program " ++ decimal count

-- that of a text of version 2
abbrev pub second : ℕ → Header
second count = record { version = Two; count = count }

-- a text is one of version 3, and means the other line by line
pub record Means (text plain : List ℕ) : Type 0 where
  pub third : is_third text ≡ true
  pub means : plain_of text ≡ plain
  pub lines : (number : ℕ) → number ≤ length (own_lines text) + 1 → line_in text number ≡ number

-- a step's line has no end within, and means itself among the steps of a text
pub record StepStays (step : Step) : Type 0 where
  pub one : first_line (step_text step) ≡ step_text step
  pub means : plain_line (Within Schedule) (without_return (step_text step)) ≡ Some (step_text step)

abbrev pub StepsStay : Type 0
StepsStay = (step : Step) → FitsStep step → StepStays step

-- a schedule means itself, but for its header
abbrev pub ScheduleStays : Type 0
ScheduleStays = (count : ℕ) (steps : List Step) → count < 2 ^ 16 → All (FitsStepOf Two) steps
    → Means (third_header Schedule count ++ 10 ∷ steps_text steps)
    (schedule_text (second count) steps)

-- so does one with commands
abbrev pub WalkStays : Type 0
WalkStays =
    (count : ℕ) (steps : List Step) (commands : List Command) → count < 2 ^ 16
    → All (FitsStepOf Two) steps → All (FitsCommand Two) commands
    → Means
    (third_header Schedule count ++ 10
    ∷ before_commands steps (lines_of command_text commands))
    (walk_text (second count) steps commands)

-- and so does a program
abbrev pub ProgramStays : Type 0
ProgramStays = (count : ℕ) (lines : List Line) → count < 2 ^ 16 → All (IsLineOf Two) lines
    → Means (third_header Program count ++ 10 ∷ lines_of line_text lines)
    (program_text (second count) lines)
