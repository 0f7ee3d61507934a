-- The text of a debugger: a schedule, the line `debug`, and commands; and where a text that is none
-- is at fault.
use Rattle.std.specs.Prelude.{◌≡◌, ◌≢◌, ℕ, ◌+◌, ◌<◌, ◌≤◌, ◌^◌, List, [], ◌∷◌, ◌++◌, length, All, None, Result, Ok, Err, ◌⊎◌, codes}
use Rattle.std.specs.Fmt.{decimal}
use Rattle.tx_base.specs.declared.steps.Step.{Step}
use Rattle.tx_lines.specs.Lines.{header_text, step_text}
use Rattle.tx_lines.specs.Schedule.{after_line, first_line, lines_of, steps_text, AreSteps, FaultsAmong, FaultsAtHeader, FaultsAtNext, FaultsBy, IsNoStep, IsSchedule, SpellsHeader}
use Rattle.tx_lines.specs.declared.faults.Fault.{Fault}
use Rattle.tx_lines.specs.declared.faults.Fault.TheVariants.{NotALine, TooLong}
use Rattle.tx_lines.specs.declared.read.command.Command.{Command}
use Rattle.tx_lines.specs.declared.read.command.Command.TheVariants.{Back, Forward, Goto, State, Moved}
use Rattle.tx_lines.specs.declared.read.header.Header.{Header}
use Rattle.tx_lines.specs.declared.read.header.TextKind.TheVariants as kinds
use Rattle.tx_lines.specs.declared.read.header.Version.{Version}
use Rattle.tx_lines.specs.declared.read.header.Version.TheVariants.{Two}
use Rattle.tx_lines.specs.declared.read.walk.Walk.{Walk}

-- the spelling of a command, without the line's end
abbrev pub command_text : Command → List ℕ
command_text Back = codes "back"
command_text Forward = codes "forward"
command_text (Goto position) = codes "goto " ++ decimal position
command_text State = codes "state"
command_text (Moved number) = codes "moved " ++ decimal number

-- the command is one of that version, and its number one that a text can hold
abbrev pub FitsCommand : Version → Command → Type 0
FitsCommand version Back = Unit {0}
FitsCommand version Forward = Unit {0}
FitsCommand version (Goto position) = position < 2 ^ 63
FitsCommand version State = Unit {0}
FitsCommand version (Moved number) = (version ≡ Two) × (number < 2 ^ 63)

-- a text of that version can hold these commands
pub record AreCommands (version : Version) (commands : List Command) : Type 0 where
  pub fit : All (FitsCommand version) commands
  pub few : length commands ≤ 4096

-- the line between the steps and the commands, without its end
abbrev pub debug_line : List ℕ
debug_line = codes "debug"

-- some steps, the line between, and what follows it
abbrev pub before_commands : List Step → List ℕ → List ℕ
before_commands steps rest = steps_text steps ++ (debug_line ++ 10 ∷ rest)

-- the whole text
abbrev pub walk_text : Header → List Step → List Command → List ℕ
walk_text header steps commands =
    header_text kinds.Schedule header ++ 10 ∷ before_commands steps (lines_of command_text commands)

-- a text can hold these steps and commands after that header
pub record IsWalk (header : Header) (steps : List Step) (commands : List Command) : Type 0 where
  pub schedule_fits : IsSchedule header steps
  pub commands_fit : AreCommands header.version commands

-- no command of that version is spelled so
abbrev pub IsNoCommand : Version → List ℕ → Type 0
IsNoCommand version line =
    (command : Command) → FitsCommand version command → line ≢ command_text command

-- neither a step of that version nor the line before the commands is spelled so
abbrev pub IsNoLineBefore : Version → List ℕ → Type 0
IsNoLineBefore version line = IsNoStep version line × (line ≢ debug_line)

-- after so many steps a line is there that is one step too many
pub record IsPastSteps (count : ℕ) (rest : List ℕ) : Type 0 where
  pub most : count ≡ 4096
  pub more : rest ≢ []
  pub other : first_line rest ≢ debug_line

-- the line after so many steps is at fault whatever it says, where the line before the commands is
-- yet to come: it is too long, or one step too many; or else it has no end, or is not there
abbrev pub FaultsUnreadBefore : ℕ → List ℕ → Fault → Type 0
FaultsUnreadBefore count rest (TooLong line) =
    (line ≡ count + 2) × ((512 < length (first_line rest)) ⊎ IsPastSteps count rest)
FaultsUnreadBefore count rest (NotALine line) =
    (line ≡ count + 2)
    × (length (first_line rest) ≤ 512)
    × (IsPastSteps count rest → ⊥)
    × (after_line rest ≡ None)
FaultsUnreadBefore count rest _ = ⊥

-- the line after so many steps is at fault, where the line before the commands is yet to come: it
-- is too long, or one step too many; or else it has no end, or is not there, or is neither a step
-- nor that line
abbrev pub FaultsBeforeCommands : Version → ℕ → List ℕ → Fault → Type 0
FaultsBeforeCommands version count rest (TooLong line) =
    (line ≡ count + 2) × ((512 < length (first_line rest)) ⊎ IsPastSteps count rest)
FaultsBeforeCommands version count rest (NotALine line) =
    (line ≡ count + 2)
    × (length (first_line rest) ≤ 512)
    × (IsPastSteps count rest → ⊥)
    × ((after_line rest ≡ None) ⊎ IsNoLineBefore version (first_line rest))
FaultsBeforeCommands version count rest _ = ⊥

-- after so many commands a line is there, and is at fault: commands begin at that line
abbrev pub FaultsAtCommand : Version → ℕ → ℕ → List ℕ → Fault → Type 0
FaultsAtCommand version number count rest fault =
    (rest ≢ []) × FaultsAtNext number (IsNoCommand version) count rest fault

-- the text after a header of that version is at fault, before its commands or among them
abbrev pub FaultsAfterHeader : Version → List ℕ → Fault → Type 0
FaultsAfterHeader version text fault =
    FaultsAmong step_text (AreSteps version) (FaultsBeforeCommands version) text fault
    ⊎ ((steps : List Step)
    × (rest : List ℕ)
    × AreSteps version steps
    × (text ≡ before_commands steps rest)
    × FaultsAmong command_text (AreCommands version) (FaultsAtCommand version (length steps + 3))
    rest fault)

-- the text is at fault: at its header, or else at the first line after it that is
abbrev pub IsWalkFault : List ℕ → Fault → Type 0
IsWalkFault text fault =
    FaultsAtHeader kinds.Schedule text fault
    ⊎ ((header : Header)
    × (rest : List ℕ)
    × SpellsHeader kinds.Schedule text header rest
    × FaultsAfterHeader header.version rest fault)

-- the schedule and the commands whose text it is, or the text's fault
abbrev pub ReadsWalk : List ℕ → Result Walk Fault → Type 0
ReadsWalk text (Ok walk) =
    (text ≡ walk_text walk.schedule.header walk.schedule.steps.items walk.commands.items)
    × IsWalk walk.schedule.header walk.schedule.steps.items walk.commands.items
ReadsWalk text (Err fault) = FaultsBy (IsWalkFault text) fault
