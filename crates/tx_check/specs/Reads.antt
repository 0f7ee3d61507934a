-- Whether a text is read by the reader of a kind, and where it is at fault else.
use Rattle.std.specs.Prelude.{ℕ, List, Ok, Option, Some, None}
use Rattle.tx_check.specs.declared.kinds.Kind.{Kind}
use Rattle.tx_check.specs.declared.kinds.Kind.TheVariants as kinds
use Rattle.tx_lines.specs.Programs.{IsProgramFault, ReadsProgram}
use Rattle.tx_lines.specs.Schedule.{IsFaultOf, ReadsSchedule}
use Rattle.tx_lines.specs.Walks.{IsWalkFault, ReadsWalk}
use Rattle.tx_lines.specs.declared.faults.Fault.{Fault}
use Rattle.tx_lines.specs.declared.faults.Fault.TheVariants.{NotALine, NoLabel, TooLong}
use Rattle.tx_lines.specs.declared.programs.Program.{Program}
use Rattle.tx_lines.specs.declared.read.schedule.Schedule.{Schedule}
use Rattle.tx_lines.specs.declared.read.walk.Walk.{Walk}

-- the text is one of that kind, by the definition of its reader
abbrev pub IsRead : Kind → List ℕ → Type 0
IsRead kinds.Schedule text = (schedule : Schedule) × ReadsSchedule text (Ok schedule)
IsRead kinds.Walk text = (walk : Walk) × ReadsWalk text (Ok walk)
IsRead kinds.Program text = (program : Program) × ReadsProgram text (Ok program)

-- the text is none of that kind, and that is its fault
abbrev pub IsAtFault : Kind → List ℕ → Fault → Type 0
IsAtFault kinds.Schedule text fault = IsFaultOf text fault
IsAtFault kinds.Walk text fault = IsWalkFault text fault
IsAtFault kinds.Program text fault = IsProgramFault text fault

-- what the reader of that kind finds: no fault, or the text's
abbrev pub Finds : Kind → List ℕ → Option Fault → Type 0
Finds kind text None = IsRead kind text
Finds kind text (Some fault) = IsAtFault kind text fault

-- the line of a fault of a text
abbrev pub line_of : Fault → ℕ
line_of (NotALine line) = line
line_of (NoLabel line) = line
line_of (TooLong line) = line
line_of _ = 0
