-- Which lines may be after the header of a text, and the fault of one that may not.
use Rattle.std.specs.Prelude.{◌≡◌, ℕ, ◌<◌, ◌≤◌, true, false, List, length, ◌⊎◌}
use Rattle.tx_check.specs.Reads.{IsRead}
use Rattle.tx_check.specs.Right.{IsNoneThere, IsRight, IsTooMany}
use Rattle.tx_check.specs.Wrong.{IsLinkedLine, IsTwice}
use Rattle.tx_check.specs.declared.kinds.Kind.{Kind}
use Rattle.tx_check.specs.declared.kinds.Kind.TheVariants as kinds
use Rattle.tx_check.specs.declared.places.Part.TheVariants as parts
use Rattle.tx_check.specs.declared.places.Place.{Place}
use Rattle.tx_check.specs.declared.places.TextLine.{TextLine}
use Rattle.tx_lines.specs.Programs.{line_text, AreLines}
use Rattle.tx_lines.specs.Schedule.{lines_of}
use Rattle.tx_lines.specs.declared.faults.Fault.{Fault}
use Rattle.tx_lines.specs.declared.faults.Fault.TheVariants.{NotALine, TooLong}
use Rattle.tx_lines.specs.declared.instructions.Line.{Line}
use Rattle.tx_lines.specs.declared.read.header.Version.{Version}

-- the line may be at that place of the text
pub record IsAllowedAt (text : List ℕ) (place : Place) (line : TextLine) : Type 0 where
  pub short : length line.bytes.now ≤ 512
  pub room : IsTooMany place.part place.count place.labels line.bytes.now → ⊥
  pub ended : line.is_ended ≡ true
  pub right : IsRight place.part place.version line.bytes.now
  pub once : place.part ≡ parts.ProgramLine → IsTwice text line.number line.bytes.now → ⊥

-- nothing is reported of the line at that place: it may be there, and where only labels are checked
-- its label is somewhere
pub record IsQuietAt (text : List ℕ) (place : Place) (line : TextLine) : Type 0 where
  pub may : IsAllowedAt text place line
  pub linked : place.part ≡ parts.Link → IsLinkedLine place.version text line.bytes.now

-- why it may not, where it is neither too long nor one too many: it has no end, or the grammar does
-- not have it, or it is a second label
abbrev pub IsNoLineAt : List ℕ → Place → TextLine → Type 0
IsNoLineAt text place line =
    (line.is_ended ≡ false)
    ⊎ (IsNoneThere place.part place.version line.bytes.now
    ⊎ ((place.part ≡ parts.ProgramLine) × IsTwice text line.number line.bytes.now))

-- the fault of the line at that place
abbrev pub IsFaultAt : List ℕ → Place → TextLine → Fault → Type 0
IsFaultAt text place line (TooLong number) =
    (number ≡ line.number)
    × ((512 < length line.bytes.now) ⊎ IsTooMany place.part place.count place.labels line.bytes.now)
IsFaultAt text place line (NotALine number) =
    (number ≡ line.number)
    × (length line.bytes.now ≤ 512)
    × (IsTooMany place.part place.count place.labels line.bytes.now → ⊥)
    × IsNoLineAt text place line
IsFaultAt text place line _ = ⊥

-- what follows a header is the lines of a program
pub record AreProgramLines (version : Version) (rest : List ℕ) : Type 0 where
  pub lines : List Line
  pub are : AreLines version lines
  pub spelled : rest ≡ lines_of line_text lines

-- no line of the text is at fault in its place: it is read, but for the labels that a program names
abbrev pub IsReadBut : Kind → List ℕ → Version → List ℕ → Type 0
IsReadBut kinds.Program text version rest = AreProgramLines version rest
IsReadBut kind text version rest = IsRead kind text
