-- The commands that read texts, and the report on a text for one of them.
use Rattle.std.specs.Prelude.{◌≡◌, ℕ, List, [], ◌∷◌, ◌++◌, codes}
use Rattle.tx_check.specs.Kinds.{kind_of}
use Rattle.tx_check.specs.Reads.{line_of, IsAtFault, IsRead}
use Rattle.tx_check.specs.Diagnostics.{IsReportBy}
use Rattle.tx_check.specs.Wrong.{IsWrongToo}
use Rattle.tx_check.specs.declared.kinds.Kind.{Kind}
use Rattle.tx_check.specs.declared.kinds.Kind.TheVariants.{Schedule, Walk, Program}
use Rattle.tx_check.specs.declared.readers.Reader.{Reader}
use Rattle.tx_check.specs.declared.readers.Reader.TheVariants.{Any, Replay, Debug, Run, Picture, Json}
use Rattle.tx_lines.specs.declared.faults.Fault.{Fault}
use Rattle.tx_translate.specs.Meant.{meant_of, IsOwnFault}

-- the kind of text that a command reads, by the kind that a text is meant to be: JSON is made of no
-- program
abbrev pub kind_for : Reader → Kind → Kind
kind_for Any kind = kind
kind_for Replay kind = Schedule
kind_for Debug kind = Walk
kind_for Run kind = Program
kind_for Picture kind = Schedule
kind_for Json Walk = Walk
kind_for Json kind = Schedule

-- as a text is meant to be
abbrev pub kind_read : Reader → List ℕ → Kind
kind_read reader text = kind_for reader (kind_of text)

-- the text is at fault for a kind at a line where it is at fault for its own kind too, and so is
-- the line of that number, after that one
pub record IsWrongFor (kind : Kind) (text : List ℕ) (number : ℕ) : Type 0 where
  pub fault : Fault
  pub is_fault : IsAtFault kind text fault
  pub own : IsWrongToo text number
  pub same : line_of own.fault ≡ line_of fault

-- the report on a text that must be of a kind: nothing exactly where it is read as that; else first
-- the line of the fault at which it is found, and each line at fault after that one where the
-- text's own kind has its fault there too: where it has not, no other line is promised
abbrev pub IsReportAs : Kind → List ℕ → List ℕ → Type 0
IsReportAs kind text report =
    IsReportBy (IsRead kind (meant_of text)) (IsOwnFault (IsAtFault kind) text)
    (IsWrongFor kind (meant_of text)) text report

-- the same of a text for a command, which reads that kind
abbrev pub IsReportFor : Reader → List ℕ → List ℕ → Type 0
IsReportFor reader text report = IsReportAs (kind_read reader (meant_of text)) text report

-- as what a text was read
abbrev pub heading : Kind → List ℕ
heading Schedule = codes "read as a schedule, for txos replay:\n"
heading Walk = codes "read as a schedule with commands, for txos debug:\n"
heading Program = codes "read as a program, for txos run:\n"

-- the report on a text of that kind, after what it was read as
abbrev pub headed : Kind → List ℕ → List ℕ
headed kind [] = []
headed kind (byte ∷ bytes) = heading kind ++ (byte ∷ bytes)

-- that is said where no command was named
abbrev pub said_for : Reader → List ℕ → List ℕ → List ℕ
said_for Any text report = headed (kind_of (meant_of text)) report
said_for _ text report = report

-- the report on a text for a command, with that before
pub record IsSaidFor (reader : Reader) (text said : List ℕ) : Type 0 where
  pub report : List ℕ
  pub report_for : IsReportFor reader text report
  pub spelled : said ≡ said_for reader text report
