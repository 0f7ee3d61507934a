-- The text of a schedule, and where a text that is none is at fault.
use Rattle.std.specs.Prelude.{◌≡◌, ◌≢◌, ℕ, ◌+◌, ◌<◌, ◌≤◌, List, [], ◌∷◌, ◌++◌, length, nat_eq, if◌then◌else◌, All, Option, Some, None, Result, Ok, Err, ◌⊎◌}
use Rattle.tx_base.specs.declared.steps.Step.{Step}
use Rattle.tx_lines.specs.declared.faults.Fault.{Fault}
use Rattle.tx_lines.specs.declared.faults.Fault.TheVariants.{NotALine, NoLabel, TooLong, Reader, Writer, NoMemory}
use Rattle.tx_lines.specs.declared.read.header.Version.{Version}
use Rattle.tx_lines.specs.declared.read.header.Header.{Header}
use Rattle.tx_lines.specs.declared.read.header.TextKind.{TextKind}
use Rattle.tx_lines.specs.declared.read.header.TextKind.TheVariants as kinds
use Rattle.tx_lines.specs.declared.read.schedule.Schedule.{Schedule}
use Rattle.tx_lines.specs.Lines.{header_text, step_text, FitsHeader, FitsStep, IsOf}

-- the bytes before the first line's end, or all where no line has an end
abbrev pub first_line : List ℕ → List ℕ
first_line [] = []
first_line (byte ∷ bytes) = if nat_eq byte 10 then [] else byte ∷ first_line bytes

-- what follows the first line's end
abbrev pub after_line : List ℕ → Option (List ℕ)
after_line [] = None
after_line (byte ∷ bytes) = if nat_eq byte 10 then Some bytes else after_line bytes

-- the lines of some things, each with its end
abbrev pub lines_of : {A : Type 0} → (A → List ℕ) → List A → List ℕ
lines_of spelling [] = []
lines_of spelling (x ∷ xs) = spelling x ++ 10 ∷ lines_of spelling xs

-- the lines of some steps
abbrev pub steps_text : List Step → List ℕ
steps_text steps = lines_of step_text steps

-- the whole text of a schedule
abbrev pub schedule_text : Header → List Step → List ℕ
schedule_text header steps = header_text kinds.Schedule header ++ 10 ∷ steps_text steps

-- a text of that version can hold the step
pub record FitsStepOf (version : Version) (step : Step) : Type 0 where
  pub fits : FitsStep step
  pub of : IsOf version step

-- a text of that version can hold these steps
pub record AreSteps (version : Version) (steps : List Step) : Type 0 where
  pub fit : All (FitsStepOf version) steps
  pub few : length steps ≤ 4096

-- a text can hold these steps after that header
pub record IsSchedule (header : Header) (steps : List Step) : Type 0 where
  pub header_fits : FitsHeader header
  pub steps_fit : AreSteps header.version steps

-- no header of that kind is spelled so
abbrev pub IsNoHeader : TextKind → List ℕ → Type 0
IsNoHeader kind line = (header : Header) → FitsHeader header → line ≢ header_text kind header

-- no step of that version is spelled so
abbrev pub IsNoStep : Version → List ℕ → Type 0
IsNoStep version line = (step : Step) → FitsStep step → IsOf version step → line ≢ step_text step

-- the first line of the text, which is not too long, and what follows its end
pub record IsLine (text line rest : List ℕ) : Type 0 where
  pub first : line ≡ first_line text
  pub after : after_line text ≡ Some rest
  pub short : length line ≤ 512

-- the text begins with the line of that header
pub record SpellsHeader (kind : TextKind) (text : List ℕ) (header : Header) (rest : List ℕ)
    : Type 0 where
  pub spelled : text ≡ header_text kind header ++ 10 ∷ rest
  pub fits : FitsHeader header

-- one thing more, that is spelled in that line
pub record Adds {A : Type 0} (spelling : A → List ℕ) (IsGood : A → Type 0) (line : List ℕ)
    (old new : List A) : Type 0 where
  pub added : A
  pub more : new ≡ old ++ added ∷ []
  pub spelled : line ≡ spelling added
  pub good : IsGood added

-- the fault is one of the text, of which that is so, or lack of memory
abbrev pub FaultsBy : (Fault → Type 0) → Fault → Type 0
FaultsBy Is (NotALine line) = Is (NotALine line)
FaultsBy Is (NoLabel line) = Is (NoLabel line)
FaultsBy Is (TooLong line) = Is (TooLong line)
FaultsBy Is NoMemory = Unit {0}
FaultsBy Is Reader = ⊥
FaultsBy Is Writer = ⊥

-- the first line of the text, which has that number, is at fault: it is too long, or else it has no
-- end
abbrev pub FaultsAtLine : ℕ → List ℕ → Fault → Type 0
FaultsAtLine number text (TooLong line) = (line ≡ number) × (512 < length (first_line text))
FaultsAtLine number text (NotALine line) =
    (line ≡ number) × (length (first_line text) ≤ 512) × (after_line text ≡ None)
FaultsAtLine number text _ = ⊥

-- the first line of the text is at fault: it is too long; or else it has no end, or is no header
abbrev pub FaultsAtHeader : TextKind → List ℕ → Fault → Type 0
FaultsAtHeader kind text (TooLong line) = (line ≡ 1) × (512 < length (first_line text))
FaultsAtHeader kind text (NotALine line) =
    (line ≡ 1)
    × (length (first_line text) ≤ 512)
    × ((after_line text ≡ None) ⊎ IsNoHeader kind (first_line text))
FaultsAtHeader kind text _ = ⊥

-- the next line is at fault whatever it says, after so many lines of a kind of which the first has
-- that number: it is too long, or one too many; or else it has no end
abbrev pub FaultsUnread : ℕ → ℕ → List ℕ → Fault → Type 0
FaultsUnread number count rest (TooLong line) =
    (line ≡ count + number) × ((512 < length (first_line rest)) ⊎ (count ≡ 4096))
FaultsUnread number count rest (NotALine line) =
    (line ≡ count + number)
    × (length (first_line rest) ≤ 512)
    × (count < 4096)
    × (after_line rest ≡ None)
FaultsUnread number count rest _ = ⊥

-- the next line is at fault, after so many lines of a kind of which the first has that number: it
-- is too long, or one too many; or else it has no end, or is none of its kind
abbrev pub FaultsAtNext : ℕ → (List ℕ → Type 0) → ℕ → List ℕ → Fault → Type 0
FaultsAtNext number IsNone count rest (TooLong line) =
    (line ≡ count + number) × ((512 < length (first_line rest)) ⊎ (count ≡ 4096))
FaultsAtNext number IsNone count rest (NotALine line) =
    (line ≡ count + number)
    × (length (first_line rest) ≤ 512)
    × (count < 4096)
    × ((after_line rest ≡ None) ⊎ IsNone (first_line rest))
FaultsAtNext number IsNone count rest _ = ⊥

-- some things are spelled line by line, and what follows is at fault after so many
pub record FaultsAmong {A : Type 0} (spelling : A → List ℕ) (AreGood : List A → Type 0)
    (FaultsAfter : ℕ → List ℕ → Fault → Type 0) (text : List ℕ) (fault : Fault) : Type 0 where
  pub before : List A
  pub rest : List ℕ
  pub good : AreGood before
  pub parts : text ≡ lines_of spelling before ++ rest
  pub fault_after : FaultsAfter (length before) rest fault

-- a line is there, and is at fault: steps begin at line 2
abbrev pub FaultsAtStep : Version → ℕ → List ℕ → Fault → Type 0
FaultsAtStep version count rest fault =
    (rest ≢ []) × FaultsAtNext 2 (IsNoStep version) count rest fault

-- the text is at fault: at its header, or else at the first line after it that is
abbrev pub IsFaultOf : List ℕ → Fault → Type 0
IsFaultOf text fault = FaultsAtHeader kinds.Schedule text fault
    ⊎ ((header : Header)
    × (rest : List ℕ)
    × SpellsHeader kinds.Schedule text header rest
    × FaultsAmong step_text (AreSteps header.version) (FaultsAtStep header.version) rest fault)

-- the schedule whose text it is, or the text's fault
abbrev pub ReadsSchedule : List ℕ → Result Schedule Fault → Type 0
ReadsSchedule text (Ok schedule) =
    (text ≡ schedule_text schedule.header schedule.steps.items)
    × IsSchedule schedule.header schedule.steps.items
ReadsSchedule text (Err fault) = FaultsBy (IsFaultOf text) fault
