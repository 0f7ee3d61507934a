-- The text of a program, and where a text that is none is at fault.
use Rattle.std.specs.Prelude.{◌≡◌, ◌≢◌, ℕ, ◌+◌, ◌<◌, ◌≤◌, Bool, true, List, [], ◌∷◌, ◌++◌, length, map, codes, All, Option, Some, None, Result, Ok, Err, ◌⊎◌, IfSome}
use Rattle.std.specs.Option.{option_map}
use Rattle.std.specs.List.{IsDistinct}
use Rattle.std.specs.Map.{keys_of, lookup}
use Rattle.std.specs.Str.{bytes_eq}
use Rattle.tx_base.specs.declared.signals.Action.{Action}
use Rattle.tx_base.specs.declared.signals.Action.TheVariants.{Catch}
use Rattle.tx_base.specs.declared.steps.Call.{Call}
use Rattle.tx_base.specs.declared.steps.Call.TheVariants as call
use Rattle.tx_lines.specs.Instructions.{instruction_text, is_name, IsInstruction}
use Rattle.tx_lines.specs.Lines.{header_text, FitsHeader}
use Rattle.tx_lines.specs.Ends.{Counts}
use Rattle.tx_lines.specs.Whole.{IsCalm}
use Rattle.tx_lines.specs.Schedule.{after_line, first_line, lines_of, FaultsAtHeader, FaultsBy, SpellsHeader}
use Rattle.tx_lines.specs.declared.faults.Fault.{Fault}
use Rattle.tx_lines.specs.declared.faults.Fault.TheVariants.{NotALine, NoLabel, TooLong, Reader, Writer, NoMemory}
use Rattle.tx_lines.specs.declared.instructions.Instruction.{Instruction}
use Rattle.tx_lines.specs.declared.instructions.Line.{Line}
use Rattle.tx_lines.specs.declared.instructions.Line.TheVariants as line
use Rattle.tx_lines.specs.declared.instructions.Name.{Name}
use Rattle.tx_lines.specs.declared.instructions.Spelling.{Spelling}
use Rattle.tx_lines.specs.declared.instructions.Spelling.TheVariants.{Plain, Slot, Label}
use Rattle.tx_lines.specs.declared.programs.Program.{Program}
use Rattle.tx_lines.specs.declared.read.header.Header.{Header}
use Rattle.tx_lines.specs.declared.read.header.TextKind.TheVariants as kinds
use Rattle.tx_lines.specs.declared.read.header.Version.{Version}

-- the front of a label's line
abbrev pub label_front : List ℕ
label_front = codes "label "

-- the spelling of a line, without its end
abbrev pub line_text : Line → List ℕ
line_text (line.Label name) = label_front ++ name.bytes.items
line_text (line.Instruction instruction) = instruction_text instruction

-- a text of that version can hold the line
abbrev pub IsLineOf : Version → Line → Type 0
IsLineOf version (line.Label name) = is_name name.bytes.items ≡ true
IsLineOf version (line.Instruction instruction) = IsInstruction version instruction

-- whether two names are the same
abbrev pub same_name : Name → Name → Bool
same_name a b = bytes_eq a.bytes.items b.bytes.items

-- the labels of some lines, each with the number of the instruction after it, of which the first
-- has that number
abbrev pub labels_from : ℕ → List Line → List (Name × ℕ)
labels_from number [] = []
labels_from number (line.Label name ∷ lines) = (name, number) ∷ labels_from number lines
labels_from number (line.Instruction instruction ∷ lines) = labels_from (number + 1) lines

abbrev pub labels_of : List Line → List (Name × ℕ)
labels_of lines = labels_from 0 lines

-- the instructions of some lines
abbrev pub instructions_of : List Line → List Instruction
instructions_of [] = []
instructions_of (line.Label name ∷ lines) = instructions_of lines
instructions_of (line.Instruction instruction ∷ lines) = instruction ∷ instructions_of lines

-- a text of that version can hold these lines
pub record AreLines (version : Version) (lines : List Line) : Type 0 where
  pub fit : All (IsLineOf version) lines
  pub few_instructions : length (instructions_of lines) ≤ 1024
  pub few_labels : length (labels_of lines) ≤ 256
  pub distinct : IsDistinct same_name (keys_of (labels_of lines))

-- the label that an instruction names
abbrev pub label_in : List Spelling → Option Name
label_in [] = None
label_in (Label name ∷ spellings) = Some name
label_in (Plain ∷ spellings) = label_in spellings
label_in (Slot slot ∷ spellings) = label_in spellings

-- an action with another point, where it has one
abbrev pub action_with_point : ℕ → Action → Action
action_with_point point (Catch old mask) = Catch point mask
action_with_point point action = action

-- a call with another point, where it has one
abbrev pub with_point : ℕ → Call → Call
with_point point (call.Jump old when) = call.Jump point when
with_point point (call.Sigaction signo action) =
    call.Sigaction signo (action_with_point point action)
with_point point c = c

-- an instruction with the number that its label names; nothing where that label is not defined
abbrev pub linked_to : List (Name × ℕ) → Instruction → Option Name → Option Instruction
linked_to labels instruction None = Some instruction
linked_to labels instruction (Some name) =
    option_map
    (λ point.
    record { call = with_point point instruction.call; spellings = instruction.spellings })
    (lookup (same_name name) labels)

abbrev pub linked : List (Name × ℕ) → Instruction → Option Instruction
linked labels instruction = linked_to labels instruction (label_in instruction.spellings.items)

-- the whole text of a program
abbrev pub program_text : Header → List Line → List ℕ
program_text header lines = header_text kinds.Program header ++ 10 ∷ lines_of line_text lines

-- the program has that header, the labels of those lines, and their instructions, each with the
-- number that its label names
pub record IsProgramOf (lines : List Line) (program : Program) : Type 0 where
  pub header_fits : FitsHeader program.header
  pub lines_fit : AreLines program.header.version lines
  pub labels : program.labels.entries ≡ labels_of lines
  pub instructions :
      map (linked (labels_of lines)) (instructions_of lines) ≡ map Some program.instructions.items

-- neither an instruction of that version nor a label is spelled so
abbrev pub IsNoLineOf : Version → List ℕ → Type 0
IsNoLineOf version text = (line : Line) → IsLineOf version line → text ≢ line_text line

-- a label of that name was met before
abbrev pub IsSecondLabel : List Line → List ℕ → Type 0
IsSecondLabel before text =
    (name : Name)
    × (text ≡ line_text (line.Label name))
    × ((number : ℕ) × (lookup (same_name name) (labels_of before) ≡ Some number))

-- a line that begins so is a label
abbrev pub BeginsLabel : List ℕ → Type 0
BeginsLabel text = (name : List ℕ) × (text ≡ label_front ++ name)

-- after so many instructions and so many labels the line is one too many of its kind
abbrev pub IsPastCounts : ℕ → ℕ → List ℕ → Type 0
IsPastCounts instructions labels text =
    (BeginsLabel text × (labels ≡ 256)) ⊎ ((BeginsLabel text → ⊥) × (instructions ≡ 1024))

-- after some lines the line is one too many of its kind
abbrev pub IsPastLines : List Line → List ℕ → Type 0
IsPastLines before text =
    IsPastCounts (length (instructions_of before)) (length (labels_of before)) text

-- after so many lines, and so many instructions and labels among them, the next line is at fault
-- whatever it says: it is too long, or one too many; or else it has no end
abbrev pub FaultsUnreadLine : ℕ → ℕ → ℕ → List ℕ → Fault → Type 0
FaultsUnreadLine count instructions labels rest (TooLong number) =
    (number ≡ count + 2)
    × ((512 < length (first_line rest)) ⊎ IsPastCounts instructions labels (first_line rest))
FaultsUnreadLine count instructions labels rest (NotALine number) =
    (number ≡ count + 2)
    × (length (first_line rest) ≤ 512)
    × (IsPastCounts instructions labels (first_line rest) → ⊥)
    × (after_line rest ≡ None)
FaultsUnreadLine count instructions labels rest _ = ⊥

-- after some lines another is there, and is at fault: it is too long, or one too many; or else it
-- has no end, or is none of a program's, or a second label of its name
abbrev pub FaultsAtProgramLine : Version → List Line → List ℕ → Fault → Type 0
FaultsAtProgramLine version before rest (TooLong number) =
    (rest ≢ [])
    × (number ≡ length before + 2)
    × ((512 < length (first_line rest)) ⊎ IsPastLines before (first_line rest))
FaultsAtProgramLine version before rest (NotALine number) =
    (rest ≢ [])
    × (number ≡ length before + 2)
    × (length (first_line rest) ≤ 512)
    × (IsPastLines before (first_line rest) → ⊥)
    × ((after_line rest ≡ None)
    ⊎ (IsNoLineOf version (first_line rest) ⊎ IsSecondLabel before (first_line rest)))
FaultsAtProgramLine version before rest _ = ⊥

-- some lines are spelled one by one, and what follows is at fault
pub record FaultsAfterLines (version : Version) (text : List ℕ) (fault : Fault) : Type 0 where
  pub before : List Line
  pub rest : List ℕ
  pub good : AreLines version before
  pub parts : text ≡ lines_of line_text before ++ rest
  pub fault_after : FaultsAtProgramLine version before rest fault

-- the instruction of a line, if it has one, with the number that its label names
abbrev pub linked_line : List (Name × ℕ) → Line → List (Option Instruction)
linked_line labels (line.Label name) = []
linked_line labels (line.Instruction instruction) = linked labels instruction ∷ []

-- the label of an instruction is not defined
pub record IsUser (labels : List (Name × ℕ)) (user : Line) : Type 0 where
  pub instruction : Instruction
  pub same : user ≡ line.Instruction instruction
  pub nowhere : linked labels instruction ≡ None

-- the first line whose label is not defined has that number
pub record IsFirstUser (labels : List (Name × ℕ)) (lines : List Line) (number : ℕ) : Type 0 where
  pub before : List Line
  pub user : Line
  pub after : List Line
  pub parts : lines ≡ before ++ user ∷ after
  pub linked_before :
      (made : List Instruction) × (map (linked labels) (instructions_of before) ≡ map Some made)
  pub nowhere : IsUser labels user
  pub same : number ≡ length before + 2

-- all lines are a program's, and that is the first that uses a label that is not defined
pub record FaultsAtLabel (version : Version) (text : List ℕ) (number : ℕ) : Type 0 where
  pub lines : List Line
  pub good : AreLines version lines
  pub spelled : text ≡ lines_of line_text lines
  pub first : IsFirstUser (labels_of lines) lines number

-- the text after the header is at fault: at the first line that is, or else at a label
abbrev pub FaultsAmongLines : Version → List ℕ → Fault → Type 0
FaultsAmongLines version text (NoLabel number) = FaultsAtLabel version text number
FaultsAmongLines version text fault = FaultsAfterLines version text fault

-- the text is at fault: at its header, or else after it
abbrev pub IsProgramFault : List ℕ → Fault → Type 0
IsProgramFault text fault = FaultsAtHeader kinds.Program text fault
    ⊎ ((header : Header)
    × (rest : List ℕ)
    × SpellsHeader kinds.Program text header rest
    × FaultsAmongLines header.version rest fault)

-- the program whose text it is, or the text's fault
abbrev pub ReadsProgram : List ℕ → Result Program Fault → Type 0
ReadsProgram text (Ok program) =
    (lines : List Line) × IsProgramOf lines program × (text ≡ program_text program.header lines)
ReadsProgram text (Err fault) = FaultsBy (IsProgramFault text) fault

-- what was left to read spells that program
pub record SpellsProgram (left : Option (List ℕ)) (program : Program) : Type 0 where
  pub lines : List Line
  pub good : IsProgramOf lines program
  pub text : IfSome left (λ bytes. bytes ≡ program_text program.header lines)

-- the program whose text was left to read; or the text is at fault; or the source failed, or was
-- interrupted once too often
abbrev pub ReadsProgramFrom : Option (List ℕ) → Counts → Result Program Fault → Counts → Type 0
ReadsProgramFrom left reads (Ok program) reads' = SpellsProgram left program × IsCalm reads reads'
ReadsProgramFrom left reads (Err (NotALine line)) reads' =
    IfSome left (λ bytes. (length bytes ≤ 1048576) × IsProgramFault bytes (NotALine line))
ReadsProgramFrom left reads (Err (NoLabel line)) reads' =
    IfSome left (λ bytes. (length bytes ≤ 1048576) × IsProgramFault bytes (NoLabel line))
ReadsProgramFrom left reads (Err (TooLong line)) reads' =
    IfSome left
    (λ bytes.
    ((line ≡ 0) × (1048576 < length bytes))
    ⊎ ((length bytes ≤ 1048576) × IsProgramFault bytes (TooLong line)))
ReadsProgramFrom left reads (Err Reader) reads' =
    (reads.failed < reads'.failed) ⊎ (reads'.again ≡ reads.again + 1001)
ReadsProgramFrom left reads (Err Writer) reads' = ⊥
ReadsProgramFrom left reads (Err NoMemory) reads' = Unit {0}

-- the same header, instructions and labels
pub record IsSameProgram (program copy : Program) : Type 0 where
  pub header : copy.header ≡ program.header
  pub instructions : copy.instructions.items ≡ program.instructions.items
  pub labels : copy.labels.entries ≡ program.labels.entries
