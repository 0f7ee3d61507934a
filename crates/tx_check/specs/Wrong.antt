-- Which lines of a text after the first are at fault in their places, whatever other lines are.
use Rattle.std.specs.Prelude.{◌≡◌, ◌≢◌, ℕ, ◌-◌, ◌<◌, ◌≤◌, Bool, true, false, List, [], ◌∷◌, ◌++◌, Option, Some, None, length, is_some, ◌⊎◌}
use Rattle.tx_check.specs.Kinds.{front_word, head_of, kind_of}
use Rattle.tx_check.specs.Numbered.{after_lines, line_at}
use Rattle.tx_check.specs.Reads.{IsAtFault}
use Rattle.tx_check.specs.Contexts.{context_after, AmongCommands, AmongLines, AmongSteps, AtHeader, Context, IsVersionOf}
use Rattle.tx_lines.specs.Programs.{label_front, label_in, line_text, BeginsLabel, IsLineOf, IsNoLineOf}
use Rattle.tx_lines.specs.Schedule.{after_line, first_line}
use Rattle.tx_lines.specs.Walks.{debug_line, IsNoCommand, IsNoLineBefore}
use Rattle.tx_lines.specs.declared.faults.Fault.{Fault}
use Rattle.tx_lines.specs.declared.faults.Fault.TheVariants as faults
use Rattle.tx_lines.specs.declared.instructions.Line.{Line}
use Rattle.tx_lines.specs.declared.instructions.Line.TheVariants as line
use Rattle.tx_lines.specs.declared.instructions.Name.{Name}
use Rattle.tx_lines.specs.declared.read.header.Version.{Version}

-- the line is one too many there
abbrev pub IsOneTooMany : Context → List ℕ → Type 0
IsOneTooMany (AtHeader kind) line = ⊥
IsOneTooMany (AmongSteps steps) line = (4096 ≤ steps) × (line ≢ debug_line)
IsOneTooMany (AmongCommands commands) line = 4096 ≤ commands
IsOneTooMany (AmongLines instructions labels) line =
    ((256 ≤ labels) × BeginsLabel line) ⊎ ((1024 ≤ instructions) × (BeginsLabel line → ⊥))

-- the line after so many is
abbrev pub IsTooManyAfter : List ℕ → ℕ → Type 0
IsTooManyAfter text count =
    IsOneTooMany (context_after (kind_of text) text count) (first_line (after_lines count text))

-- the line is none that the grammar has there; nothing is said of headers
abbrev pub IsNoneIn : Version → Context → List ℕ → Type 0
IsNoneIn version (AtHeader kind) line = Unit {0}
IsNoneIn version (AmongSteps steps) line = IsNoLineBefore version line
IsNoneIn version (AmongCommands commands) line = IsNoCommand version line
IsNoneIn version (AmongLines instructions labels) line = IsNoLineOf version line

-- the line is a label, and so is an earlier one, of the same name
pub record IsTwice (text : List ℕ) (number : ℕ) (line : List ℕ) : Type 0 where
  pub label : BeginsLabel line
  pub earlier : ℕ
  pub some : 1 ≤ earlier
  pub before : earlier < number
  pub same : line_at earlier text ≡ line

-- so it is among the lines of a program
abbrev pub IsSecondIn : Context → List ℕ → ℕ → List ℕ → Type 0
IsSecondIn (AmongLines instructions labels) text number line = IsTwice text number line
IsSecondIn _ text number line = ⊥

-- a word of a line: from some place on, the bytes up to the next space
pub record IsWordOf (word line : List ℕ) : Type 0 where
  pub front : List ℕ
  pub rest : List ℕ
  pub parts : line ≡ front ++ rest
  pub same : word ≡ front_word rest

-- the line names a label by `@`, and no line is that label
pub record NamesNowhere (text line : List ℕ) : Type 0 where
  pub name : List ℕ
  pub named : IsWordOf (64 ∷ name) line
  pub nowhere : (number : ℕ) → line_at number text ≢ label_front ++ name

-- the line of that number is at fault in that context, whatever label it names
pub data IsWrongIn (version : Version) (text : List ℕ) (number : ℕ) (context : Context)
    (line : List ℕ) (is_ended : Bool) : Type 0 where
  TooLong : 512 < length line → IsWrongIn version text number context line is_ended
  NoEnd : is_ended ≡ false → IsWrongIn version text number context line is_ended
  TooMany : IsOneTooMany context line → IsWrongIn version text number context line is_ended
  Other : IsNoneIn version context line → IsWrongIn version text number context line is_ended
  Second : IsSecondIn context text number line → IsWrongIn version text number context line is_ended

-- so it is, or it names a label that is nowhere
abbrev pub IsWrong : Version → List ℕ → ℕ → Context → List ℕ → Bool → Type 0
IsWrong version text number context line is_ended =
    IsWrongIn version text number context line is_ended ⊎ NamesNowhere text line

-- whether the line of that number has an end
abbrev pub has_end : ℕ → List ℕ → Bool
has_end number text = is_some (after_line (after_lines (number - 1) text))

-- the line of that number is there, after the first, and is at fault
pub record IsWrongLine (text : List ℕ) (number : ℕ) : Type 0 where
  pub past_first : 2 ≤ number
  pub there : after_lines (number - 1) text ≢ []
  pub version : Version
  pub of_text : IsVersionOf (head_of (kind_of text)) text version
  pub wrong :
      IsWrong version text number (context_after (kind_of text) text (number - 1))
      (line_at number text) (has_end number text)

-- the line of that number is there and is at fault in its place, whatever label it names; and no
-- line before it is one too many
pub record IsWrongThere (text : List ℕ) (number : ℕ) : Type 0 where
  pub there : after_lines (number - 1) text ≢ []
  pub version : Version
  pub of_text : IsVersionOf (head_of (kind_of text)) text version
  pub wrong :
      IsWrongIn version text number (context_after (kind_of text) text (number - 1))
      (line_at number text) (has_end number text)
  pub none_too_many : (count : ℕ) → count < number - 1 → IsTooManyAfter text count → ⊥

-- the line names a label, and no line of the text is that label
abbrev pub IsNowhere : List ℕ → Option Name → Type 0
IsNowhere text None = ⊥
IsNowhere text (Some name) = (number : ℕ) → line_at number text ≢ label_front ++ name.bytes.items

abbrev pub IsNamedNowhere : List ℕ → Line → Type 0
IsNamedNowhere text (line.Label name) = ⊥
IsNamedNowhere text (line.Instruction instruction) =
    IsNowhere text (label_in instruction.spellings.items)

-- the line names no label that is nowhere, where it spells one of that version
abbrev pub IsLinkedLine : Version → List ℕ → List ℕ → Type 0
IsLinkedLine version text line =
    (one : Line) → IsLineOf version one → line ≡ line_text one → IsNamedNowhere text one → ⊥

-- the line of that number is there, and is one of the text's version that names a label that is
-- nowhere
pub record IsUnlinked (text : List ℕ) (number : ℕ) : Type 0 where
  pub there : after_lines (number - 1) text ≢ []
  pub version : Version
  pub of_text : IsVersionOf (head_of (kind_of text)) text version
  pub one : Line
  pub good : IsLineOf version one
  pub spelled : line_at number text ≡ line_text one
  pub nowhere : IsNamedNowhere text one

-- the line of that number is neither too long nor one too many, and is at fault in its place,
-- whatever label it names
pub record IsNoLineIn (text : List ℕ) (number : ℕ) : Type 0 where
  pub short : length (line_at number text) ≤ 512
  pub room : IsTooManyAfter text (number - 1) → ⊥
  pub version : Version
  pub of_text : IsVersionOf (head_of (kind_of text)) text version
  pub wrong :
      IsWrongIn version text number (context_after (kind_of text) text (number - 1))
      (line_at number text) (has_end number text)

-- it is right but for its label, which is nowhere
pub record IsNoLabelIn (text : List ℕ) (number : ℕ) : Type 0 where
  pub short : length (line_at number text) ≤ 512
  pub ended : has_end number text ≡ true
  pub unlinked : IsUnlinked text number

-- the line of that fault is so at fault
abbrev pub IsFaultIn : List ℕ → Fault → Type 0
IsFaultIn text (faults.TooLong line) =
    (512 < length (line_at line text)) ⊎ IsTooManyAfter text (line - 1)
IsFaultIn text (faults.NotALine line) = IsNoLineIn text line
IsFaultIn text (faults.NoLabel line) = IsNoLabelIn text line
IsFaultIn text _ = ⊥

-- after the line of that fault of the text the line of that number is at fault too: where the fault
-- is a label that is nowhere, by its label; else in its place
abbrev pub IsWrongAfterFault : Fault → List ℕ → ℕ → Type 0
IsWrongAfterFault (faults.NotALine line) text number = (line < number) × IsWrongThere text number
IsWrongAfterFault (faults.TooLong line) text number = (line < number) × IsWrongThere text number
IsWrongAfterFault (faults.NoLabel line) text number = (line < number) × IsUnlinked text number
IsWrongAfterFault _ text number = ⊥

-- the text is at fault, and so is the line of that number, after the line of the fault
pub record IsWrongToo (text : List ℕ) (number : ℕ) : Type 0 where
  pub fault : Fault
  pub is_fault : IsAtFault (kind_of text) text fault
  pub too : IsWrongAfterFault fault text number
