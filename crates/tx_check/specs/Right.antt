-- Whether a line is right by itself, by what must be in its place.
use Rattle.std.specs.Prelude.{◌≡◌, ◌≢◌, List, ℕ, ◌≤◌, ◌⊎◌}
use Rattle.tx_base.specs.declared.steps.Step.{Step}
use Rattle.tx_check.specs.declared.places.Part.{Part}
use Rattle.tx_check.specs.declared.places.Part.TheVariants as parts
use Rattle.tx_lines.specs.Lines.{step_text}
use Rattle.tx_lines.specs.Programs.{line_text, BeginsLabel, IsLineOf, IsNoLineOf}
use Rattle.tx_lines.specs.Schedule.{FitsStepOf}
use Rattle.tx_lines.specs.Walks.{command_text, debug_line, FitsCommand, IsNoCommand, IsNoLineBefore}
use Rattle.tx_lines.specs.declared.instructions.Line.{Line}
use Rattle.tx_lines.specs.declared.read.command.Command.{Command}
use Rattle.tx_lines.specs.declared.read.header.Version.{Version}

-- the line spells a step of that version
pub record SpellsStep (version : Version) (line : List ℕ) : Type 0 where
  pub step : Step
  pub fits : FitsStepOf version step
  pub spelled : line ≡ step_text step

-- the line spells a command of that version
pub record SpellsCommand (version : Version) (line : List ℕ) : Type 0 where
  pub command : Command
  pub fits : FitsCommand version command
  pub spelled : line ≡ command_text command

-- the line spells an instruction of that version, or a label
pub record SpellsLine (version : Version) (line : List ℕ) : Type 0 where
  pub one : Line
  pub fits : IsLineOf version one
  pub spelled : line ≡ line_text one

-- the line is one that may be there; first lines are not read by themselves
abbrev pub IsRight : Part → Version → List ℕ → Type 0
IsRight (parts.Header kind) version line = ⊥
IsRight parts.Step version line = (line ≡ debug_line) ⊎ SpellsStep version line
IsRight parts.Command version line = SpellsCommand version line
IsRight _ version line = SpellsLine version line

-- no line that the grammar has there is spelled so; nothing is said of first lines
abbrev pub IsNoneThere : Part → Version → List ℕ → Type 0
IsNoneThere (parts.Header kind) version line = Unit {0}
IsNoneThere parts.Step version line = IsNoLineBefore version line
IsNoneThere parts.Command version line = IsNoCommand version line
IsNoneThere _ version line = IsNoLineOf version line

-- so many lines of its part are before it that the line is one too many; of a program there are so
-- many instructions, and so many labels
abbrev pub IsTooMany : Part → ℕ → ℕ → List ℕ → Type 0
IsTooMany parts.Step count labels line = (4096 ≤ count) × (line ≢ debug_line)
IsTooMany parts.Command count labels line = 4096 ≤ count
IsTooMany parts.ProgramLine count labels line =
    ((256 ≤ labels) × BeginsLabel line) ⊎ ((1024 ≤ count) × (BeginsLabel line → ⊥))
IsTooMany _ count labels line = ⊥
