-- How a program is read from a text of any version.
use Rattle.std.specs.Prelude.{◌≡◌, ℕ, ◌+◌, ◌<◌, ◌≤◌, List, Option, length, ◌⊎◌, Result, Ok, Err, IfSome}
use Rattle.tx_lines.specs.Ends.{Counts}
use Rattle.tx_lines.specs.Programs.{program_text, IsProgramFault, IsProgramOf}
use Rattle.tx_lines.specs.Schedule.{FaultsBy}
use Rattle.tx_lines.specs.Whole.{IsCalm}
use Rattle.tx_lines.specs.declared.faults.Fault.{Fault}
use Rattle.tx_lines.specs.declared.faults.Fault.TheVariants.{NotALine, NoLabel, TooLong, Reader, Writer, NoMemory}
use Rattle.tx_lines.specs.declared.instructions.Line.{Line}
use Rattle.tx_lines.specs.declared.programs.Program.{Program}
use Rattle.tx_translate.specs.Meant.{meant_of, IsOwnFault}

-- the text means that program
abbrev pub IsMeantProgram : List ℕ → Program → Type 0
IsMeantProgram text program =
    (lines : List Line)
    × IsProgramOf lines program
    × (meant_of text ≡ program_text program.header lines)

-- the program that a text means, or the text's fault
abbrev pub MeansProgramOf : List ℕ → Result Program Fault → Type 0
MeansProgramOf text (Ok program) = IsMeantProgram text program
MeansProgramOf text (Err fault) = FaultsBy (IsOwnFault IsProgramFault text) fault

-- what was left to read means that program, and is no longer than a text may be
pub record MeansProgram (left : Option (List ℕ)) (program : Program) : Type 0 where
  pub lines : List Line
  pub good : IsProgramOf lines program
  pub short : IfSome left (λ bytes. length bytes ≤ 1048576)
  pub text : IfSome left (λ bytes. meant_of bytes ≡ program_text program.header lines)

-- the program that the text means which was left to read; or the text is at fault; or the source
-- failed, or was interrupted once too often
abbrev pub MeansProgramFrom : Option (List ℕ) → Counts → Result Program Fault → Counts → Type 0
MeansProgramFrom left reads (Ok program) reads' = MeansProgram left program × IsCalm reads reads'
MeansProgramFrom left reads (Err (NotALine line)) reads' =
    IfSome left
    (λ bytes. (length bytes ≤ 1048576) × IsOwnFault IsProgramFault bytes (NotALine line))
MeansProgramFrom left reads (Err (NoLabel line)) reads' =
    IfSome left (λ bytes. (length bytes ≤ 1048576) × IsOwnFault IsProgramFault bytes (NoLabel line))
MeansProgramFrom left reads (Err (TooLong line)) reads' =
    IfSome left
    (λ bytes.
    ((line ≡ 0) × (1048576 < length bytes))
    ⊎ ((length bytes ≤ 1048576) × IsOwnFault IsProgramFault bytes (TooLong line)))
MeansProgramFrom left reads (Err Reader) reads' =
    (reads.failed < reads'.failed) ⊎ (reads'.again ≡ reads.again + 1001)
MeansProgramFrom left reads (Err Writer) reads' = ⊥
MeansProgramFrom left reads (Err NoMemory) reads' = Unit {0}
