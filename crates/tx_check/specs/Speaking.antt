-- What is said of a line, and of a word of it.
use Rattle.std.specs.Prelude.{◌≡◌, ◌≢◌, ◌⊎◌, ◌<◌, ◌≤◌, ℕ, ◌+◌, Bool, true, false, not, ◌||◌, List, [], ◌∷◌, ◌++◌, length, map, take, nat_eq, nat_lt, codes, Option, Some, None, IfSome, if◌then◌else◌}
use Rattle.std.specs.Char.{is_ascii_digit, is_ascii_graphic}
use Rattle.std.specs.Fmt.{decimal}
use Rattle.std.specs.Str.{bytes_eq}
use Rattle.tx_check.specs.Right.{IsNoneThere, IsRight, IsTooMany}
use Rattle.tx_check.specs.Wrong.{IsTwice}
use Rattle.tx_check.specs.declared.places.Part.TheVariants as parts
use Rattle.tx_check.specs.declared.places.Place.{Place}
use Rattle.tx_check.specs.declared.trouble.LineTrouble.{LineTrouble}
use Rattle.tx_check.specs.declared.trouble.LineTrouble.TheVariants.{TooLong, TooManySteps, TooManyCommands, TooManyInstructions, TooManyLabels, NoEnd, CarriageReturn, ByteOrderMark, Comment, OtherComment, Empty, Space, NoHeader, NoCall, DeferIsLater, MovedIsLater, CommandTooSoon, DebugAgain, LabelInSchedule, StepInProgram, DebugInProgram, StepAmongCommands, NoSessionHeader, HeaderLate, ProgramInSession, DebugInSession, NoStep, NeitherStepNorCommand, ProgramHere, ScheduleHere, CommandsHere, NoCommands, NoneOfTheGrammar}
use Rattle.tx_check.specs.declared.trouble.Names.{Names}
use Rattle.tx_check.specs.declared.trouble.Names.TheVariants as names
use Rattle.tx_check.specs.declared.trouble.What.{What}
use Rattle.tx_check.specs.declared.trouble.What.TheVariants as whats
use Rattle.tx_check.specs.declared.trouble.WordTrouble.{WordTrouble}
use Rattle.tx_check.specs.declared.trouble.WordTrouble.TheVariants as words
use Rattle.tx_translate.specs.OwnLines.{without_return}
use Rattle.tx_translate.specs.Words.{words_in}

-- the sentences about lines: about the command that must read the text, about sessions, about what
-- is in a wrong place, and all of them
abbrev pub reader_sentence : LineTrouble → List ℕ
reader_sentence ProgramHere = codes "this is a program, for txos run; expected a schedule"
reader_sentence ScheduleHere = codes "this is a schedule, for txos replay; expected a program"
reader_sentence CommandsHere = codes "commands begin here, which only txos debug and json read"
reader_sentence NoCommands = codes "expected a line debug, and commands after it"
reader_sentence trouble = codes "the grammar has no such line"

abbrev pub session_sentence : LineTrouble → List ℕ
session_sentence NoSessionHeader =
    codes "a session begins with txos 3 schedule N, for 1 to 256 processes"
session_sentence HeaderLate = codes "only the first line of a session is a header"
session_sentence ProgramInSession = codes "a session has steps, and no program: schedule"
session_sentence DebugInSession = codes "a session takes commands without a line debug"
session_sentence NoStep = codes "this is no step"
session_sentence NeitherStepNorCommand = codes "neither a step nor a command"
session_sentence trouble = reader_sentence trouble

abbrev pub misplaced_sentence : LineTrouble → List ℕ
misplaced_sentence DeferIsLater = codes "sys_xbegin defer is not in version 1: txos 3 in line 1"
misplaced_sentence MovedIsLater = codes "moved is not in version 1: txos 3 in line 1"
misplaced_sentence CommandTooSoon = codes "commands come after a line debug"
misplaced_sentence DebugAgain = codes "commands have begun: debug is above"
misplaced_sentence LabelInSchedule = codes "labels need a program: txos 3 program N in line 1"
misplaced_sentence StepInProgram = codes "this is a program: its lines name no process"
misplaced_sentence DebugInProgram =
    codes "this is a program: txos run --workers N --turns T, and no commands"
misplaced_sentence StepAmongCommands = codes "commands have begun: steps come before the line debug"
misplaced_sentence trouble = session_sentence trouble

abbrev pub line_sentence : LineTrouble → List ℕ
line_sentence TooLong = codes "the line has more than 512 bytes"
line_sentence TooManySteps = codes "there are 4,096 steps already"
line_sentence TooManyCommands = codes "there are 4,096 commands already"
line_sentence TooManyInstructions = codes "there are 1,024 instructions already"
line_sentence TooManyLabels = codes "there are 256 labels already"
line_sentence NoEnd = codes "the last line has no end"
line_sentence CarriageReturn =
    codes "the line ends with CR, which only version 3 takes: txos 3 in line 1"
line_sentence ByteOrderMark = codes "the text begins with a byte-order mark, which must go"
line_sentence Comment = codes "only version 3 has comments: txos 3 in line 1, and # before them"
line_sentence OtherComment = codes "comments begin with #, in version 3"
line_sentence Empty = codes "the line is empty, which only version 3 takes: txos 3 in line 1"
line_sentence Space =
    codes "before version 3 one space separates words, with none before or after them"
line_sentence NoHeader =
    codes "a text begins with txos 3 schedule N or txos 3 program N, for N processes"
line_sentence NoCall = codes "expected a call after the process"
line_sentence trouble = misplaced_sentence trouble

-- whether a word of a line ends before these bytes: at the line's end, or before a tab, a line's
-- return, a space, or a comment
abbrev pub ends_word : List ℕ → Bool
ends_word [] = true
ends_word (byte ∷ bytes) = nat_eq byte 9 || nat_eq byte 13 || nat_eq byte 32 || nat_eq byte 35

-- the word is at that column of the line; columns count from 1
pub record IsWordAt (line : List ℕ) (column : ℕ) (word : List ℕ) : Type 0 where
  pub front : List ℕ
  pub rest : List ℕ
  pub parts : line ≡ front ++ (word ++ rest)
  pub at : column ≡ length front + 1
  pub ends : ends_word rest ≡ true

-- these bytes are at that column
pub record IsAt (line : List ℕ) (column : ℕ) (bytes : List ℕ) : Type 0 where
  pub front : List ℕ
  pub rest : List ℕ
  pub parts : line ≡ front ++ (bytes ++ rest)
  pub at : column ≡ length front + 1

-- the byte is there
abbrev pub IsByteAt : List ℕ → ℕ → ℕ → Type 0
IsByteAt line column byte = IsAt line column (byte ∷ [])

-- what is said of a byte, and of a word: its first bytes
abbrev pub shown : ℕ → ℕ
shown byte = if nat_eq byte 32 || is_ascii_graphic byte then byte else 63

abbrev pub said_word : List ℕ → List ℕ
said_word word =
    if nat_lt 48 (length word) then map shown (take 48 word) ++ codes ".." else map shown word

-- what may be said before a word
abbrev pub is_front : List ℕ → Bool
is_front front =
    bytes_eq front []
    || bytes_eq front (codes "no such call: ")
    || bytes_eq front (codes "no such command: ")
    || bytes_eq front (codes "no such piece: ")
    || bytes_eq front (codes "no such label: ")
    || bytes_eq front (codes "there is no signal ")
    || bytes_eq front (codes "label ")

-- whether the said word ends before these bytes
abbrev pub is_after : List ℕ → Bool
is_after [] = true
is_after (byte ∷ bytes) = nat_eq byte 32 || nat_eq byte 44 || nat_eq byte 58 || nat_eq byte 59

-- the sentence speaks of that word
pub record SpeaksOf (word sentence : List ℕ) : Type 0 where
  pub front : List ℕ
  pub after : List ℕ
  pub spelled : sentence ≡ front ++ (said_word word ++ after)
  pub known : is_front front ≡ true
  pub ends : is_after after ≡ true

-- of that byte
pub record SpeaksOfByte (byte : ℕ) (sentence : List ℕ) : Type 0 where
  pub after : List ℕ
  pub spelled : sentence ≡ codes "byte " ++ (decimal byte ++ after)
  pub ends : is_after after ≡ true

-- the word of which is spoken
abbrev pub word_of : What → Option (List ℕ)
word_of (whats.Line trouble) = None
word_of (whats.Word word trouble) = Some word.now
word_of (whats.OddByte byte) = None

-- what a sentence says that is about no word
abbrev pub SaysOfLine : What → List ℕ → Type 0
SaysOfLine (whats.Line trouble) sentence = sentence ≡ line_sentence trouble
SaysOfLine (whats.OddByte byte) sentence = SpeaksOfByte byte sentence
SaysOfLine what sentence = Unit {0}

-- a space at that column separates no two words: it is first, or last, or before another one
pub record IsOddSpace (line : List ℕ) (column : ℕ) : Type 0 where
  pub front : List ℕ
  pub rest : List ℕ
  pub parts : line ≡ front ++ (32 ∷ rest)
  pub at : column ≡ length front + 1
  pub odd : (front ≡ []) ⊎ ((rest ≡ []) ⊎ ((others : List ℕ) × (rest ≡ 32 ∷ others)))

-- no word is at that column, or after it; a line may end with one byte 13
pub record IsAfterWords (line : List ℕ) (column : ℕ) : Type 0 where
  pub front : List ℕ
  pub rest : List ℕ
  pub end : List ℕ
  pub parts : line ≡ front ++ (rest ++ end)
  pub at : column ≡ length front + 1
  pub none : words_in rest ≡ []
  pub ends : (end ≡ []) ⊎ (end ≡ 13 ∷ [])

-- a byte that no line of the first two versions has
abbrev pub is_odd : ℕ → Bool
is_odd byte = not (nat_eq byte 32 || is_ascii_graphic byte)

-- a digit is at that column
pub record IsDigitAt (line : List ℕ) (column : ℕ) : Type 0 where
  pub byte : ℕ
  pub there : IsByteAt line column byte
  pub digit : is_ascii_digit byte ≡ true

-- a command is at that column, and what a step begins with
abbrev pub IsCommandAt : List ℕ → ℕ → Type 0
IsCommandAt line column =
    IsWordAt line column (codes "back")
    ⊎ (IsWordAt line column (codes "forward")
    ⊎ (IsWordAt line column (codes "goto")
    ⊎ (IsWordAt line column (codes "state") ⊎ IsWordAt line column (codes "moved"))))

abbrev pub IsStepAt : List ℕ → ℕ → Type 0
IsStepAt line column = IsWordAt line column (codes "kernel") ⊎ IsDigitAt line column

-- the word at the column of a trouble with a line, where it is always the same
abbrev pub word_for : LineTrouble → Option (List ℕ)
word_for NoSessionHeader = Some (codes "txos")
word_for HeaderLate = Some (codes "txos")
word_for ProgramInSession = Some (codes "program")
word_for ProgramHere = Some (codes "program")
word_for ScheduleHere = Some (codes "schedule")
word_for DebugAgain = Some (codes "debug")
word_for DebugInProgram = Some (codes "debug")
word_for DebugInSession = Some (codes "debug")
word_for CommandsHere = Some (codes "debug")
word_for LabelInSchedule = Some (codes "label")
word_for MovedIsLater = Some (codes "moved")
word_for DeferIsLater = Some (codes "sys_xbegin")
word_for trouble = None

-- what is said of a line at that column is true of it; what holds of any line, and so says nothing
-- of this one, is never said
abbrev pub IsTrueOf : LineTrouble → List ℕ → ℕ → Type 0
IsTrueOf TooLong line column = 512 < length line
IsTrueOf NoEnd line column = column ≡ length line + 1
IsTrueOf CarriageReturn line column = IsByteAt line column 13 × (column ≡ length line)
IsTrueOf ByteOrderMark line column = IsAt line column (239 ∷ 187 ∷ 191 ∷ [])
IsTrueOf Comment line column = IsByteAt line column 35
IsTrueOf OtherComment line column =
    IsAt line column (codes "//") ⊎ (IsAt line column (codes "/*") ⊎ IsAt line column (codes ";"))
IsTrueOf Empty line column = line ≡ []
IsTrueOf NoCommands line column = line ≡ []
IsTrueOf Space line column = IsOddSpace line column
IsTrueOf NoCall line column = IsAfterWords line column
IsTrueOf CommandTooSoon line column = IsCommandAt line column
IsTrueOf StepInProgram line column = IsStepAt line column
IsTrueOf StepAmongCommands line column = IsStepAt line column
IsTrueOf NoStep line column = ⊥
IsTrueOf NeitherStepNorCommand line column = ⊥
IsTrueOf NoneOfTheGrammar line column = ⊥
IsTrueOf trouble line column = IfSome (word_for trouble) (λ word. IsWordAt line column word)

-- the sentence is about the line as a whole, and true of it; or it speaks of the byte or the word
-- at that column
pub data SpeaksAt (line : List ℕ) (column : ℕ) (sentence : List ℕ) : Type 0 where
  OfLine : (trouble : LineTrouble) → IsTrueOf trouble line column → sentence ≡ line_sentence trouble
      → SpeaksAt line column sentence
  OfByte : (byte : ℕ) → IsByteAt line column byte → is_odd byte ≡ true → SpeaksOfByte byte sentence
      → SpeaksAt line column sentence
  OfWord : (word : List ℕ) → IsWordAt line column word → SpeaksOf word sentence
      → SpeaksAt line column sentence

-- what is reported at that column of a line is true, where it is about no word
abbrev pub IsPlacedInLine : List ℕ → ℕ → What → Type 0
IsPlacedInLine line column (whats.Line trouble) = IsTrueOf trouble line column
IsPlacedInLine line column (whats.OddByte byte) = IsByteAt line column byte × (is_odd byte ≡ true)
IsPlacedInLine line column what = Unit {0}

-- the kinds of faults: the grammar has no such line, or it has no end; it names a label that is
-- nowhere; it is too long, or one too many
pub data FaultKind : Type 0 where
  OfGrammar : FaultKind
  OfLabel : FaultKind
  OfLength : FaultKind

-- of what kind a trouble is
abbrev pub kind_of_line : LineTrouble → FaultKind
kind_of_line TooLong = OfLength
kind_of_line TooManySteps = OfLength
kind_of_line TooManyCommands = OfLength
kind_of_line TooManyInstructions = OfLength
kind_of_line TooManyLabels = OfLength
kind_of_line trouble = OfGrammar

abbrev pub kind_of_names : Names → FaultKind
kind_of_names (names.Labels text) = OfLabel
kind_of_names names = OfGrammar

abbrev pub kind_of_word : WordTrouble → FaultKind
kind_of_word (words.NoSuch names) = kind_of_names names
kind_of_word trouble = OfGrammar

abbrev pub kind_of_what : What → FaultKind
kind_of_what (whats.Line trouble) = kind_of_line trouble
kind_of_what (whats.Word word trouble) = kind_of_word trouble
kind_of_what (whats.OddByte byte) = OfGrammar

-- what is before a label that is nowhere, and before no other word
abbrev pub no_label : List ℕ
no_label = codes "no such label: "

-- the sentence speaks of that word after that front
pub record SpeaksAfter (front word sentence : List ℕ) : Type 0 where
  pub after : List ℕ
  pub spelled : sentence ≡ front ++ (said_word word ++ after)
  pub ends : is_after after ≡ true

-- the sentence speaks of a word after another front
pub record SpeaksOfOther (sentence : List ℕ) : Type 0 where
  pub front : List ℕ
  pub word : List ℕ
  pub known : is_front front ≡ true
  pub other : front ≢ no_label
  pub speaks : SpeaksAfter front word sentence

-- the sentence is that of a trouble of that kind with a line
pub record SaysOfKind (kind : FaultKind) (sentence : List ℕ) : Type 0 where
  pub trouble : LineTrouble
  pub of : kind_of_line trouble ≡ kind
  pub says : sentence ≡ line_sentence trouble

-- the sentence is of that kind: of a label begins `no such label: `; of a length has a sentence of
-- its own; of the grammar is any other
abbrev pub IsOfKind : FaultKind → List ℕ → Type 0
IsOfKind OfGrammar sentence =
    SaysOfKind OfGrammar sentence
    ⊎ (((byte : ℕ) × SpeaksOfByte byte sentence) ⊎ SpeaksOfOther sentence)
IsOfKind OfLabel sentence = (word : List ℕ) × SpeaksAfter no_label word sentence
IsOfKind OfLength sentence = SaysOfKind OfLength sentence

-- what is reported of a line has that kind there: too long, or one too many; of a label, where a
-- line is right that must name one; else none of the grammar's, a label that is there twice, or
-- without an end
abbrev pub IsKindAt : Place → List ℕ → ℕ → List ℕ → Bool → FaultKind → Type 0
IsKindAt place text number line is_ended OfLength =
    (512 < length line) ⊎ IsTooMany place.part place.count place.labels line
IsKindAt place text number line is_ended OfLabel =
    (place.part ≡ parts.Link) × IsRight place.part place.version line
IsKindAt place text number line is_ended OfGrammar =
    (length line ≤ 512) × (IsTooMany place.part place.count place.labels line → ⊥)
    × (IsNoneThere place.part place.version line
    ⊎ (((place.part ≡ parts.ProgramLine) × IsTwice text number line) ⊎ (is_ended ≡ false)))

-- what was found of the line that is meant can be reported of its own one: that is too long where
-- the other is
pub record IsFitting (line : List ℕ) (what : What) : Type 0 where
  pub long : 512 < length (without_return line) → kind_of_what what ≡ OfLength
  pub short : what ≡ whats.Line TooLong → 512 < length line
