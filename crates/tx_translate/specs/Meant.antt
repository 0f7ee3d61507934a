-- What a text of any version means, and how its faults are reported.
use Rattle.std.specs.Prelude.{◌≡◌, ℕ, List, if◌then◌else◌}
use Rattle.tx_lines.specs.declared.faults.Fault.{Fault}
use Rattle.tx_lines.specs.declared.faults.Fault.TheVariants.{NotALine, NoLabel, TooLong, Reader, Writer, NoMemory}
use Rattle.tx_translate.specs.Plain.{is_third, line_in, own_line_of, plain_of}
use Rattle.tx_translate.specs.declared.meant.Meant.{Meant}
use Rattle.tx_translate.specs.declared.meant.Meant.TheVariants.{Itself, Another}

-- the text of the first two versions that a text means: itself, where it is none of the third
abbrev pub meant_of : List ℕ → List ℕ
meant_of text = if is_third text then plain_of text else text

-- the line of the text itself that a line of that one comes from
abbrev pub own_line : List ℕ → ℕ → ℕ
own_line text line = if is_third text then line_in text line else line

-- a fault with its line found by that
abbrev pub fault_by : (ℕ → ℕ) → Fault → Fault
fault_by lines (NotALine line) = NotALine (lines line)
fault_by lines (NoLabel line) = NoLabel (lines line)
fault_by lines (TooLong line) = TooLong (lines line)
fault_by lines Reader = Reader
fault_by lines Writer = Writer
fault_by lines NoMemory = NoMemory

-- the fault is one of the text that a text means, reported at the text's own line
pub record IsOwnFault (IsFault : List ℕ → Fault → Type 0) (text : List ℕ) (fault : Fault)
    : Type 0 where
  pub meant : Fault
  pub is_fault : IsFault (meant_of text) meant
  pub own : fault ≡ fault_by (own_line text) meant

-- the bytes that are meant, and the own line of a line of them
abbrev pub bytes_of : Meant → List ℕ
bytes_of (Itself text) = text.now
bytes_of (Another plain) = plain.text.items

abbrev pub line_of : Meant → ℕ → ℕ
line_of (Itself text) line = line
line_of (Another plain) line = own_line_of plain line

-- it is what that text means
pub record IsMeantBy (text : List ℕ) (meant : Meant) : Type 0 where
  pub bytes : bytes_of meant ≡ meant_of text
  pub lines : (line : ℕ) → line_of meant line ≡ own_line text line
