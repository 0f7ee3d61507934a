-- The report on a text: a diagnostic for each line at fault.
use Rattle.std.specs.Prelude.{◌≡◌, ◌≢◌, ◌↔◌, ℕ, ◌<◌, ◌≤◌, Bool, true, not, List, [], ◌∷◌, ◌++◌, length, nat_eq, codes, All, ◌+◌, ◌⊎◌, IfSome}
use Rattle.std.specs.Fmt.{decimal}
use Rattle.std.specs.List.{list_all}
use Rattle.tx_check.specs.Kinds.{kind_of}
use Rattle.tx_check.specs.Numbered.{line_at}
use Rattle.tx_check.specs.Reads.{line_of, IsAtFault, IsRead}
use Rattle.tx_check.specs.Speaking.{line_sentence, word_of, FaultKind, IsOfKind, IsPlacedInLine, IsWordAt, OfGrammar, OfLabel, OfLength, SpeaksAt}
use Rattle.tx_check.specs.Wrong.{IsWrongLine, IsWrongToo}
use Rattle.tx_check.specs.declared.trouble.LineTrouble.TheVariants.{TooLong}
use Rattle.tx_check.specs.declared.trouble.Trouble.{Trouble}
use Rattle.tx_lines.specs.Schedule.{lines_of}
use Rattle.tx_lines.specs.declared.faults.Fault.{Fault}
use Rattle.tx_lines.specs.declared.faults.Fault.TheVariants as faults
use Rattle.tx_translate.specs.Meant.{meant_of, own_line, IsOwnFault}
use Rattle.tx_translate.specs.OwnLines.{without_return}

-- the diagnostic of one line: its number, a column, and a sentence
pub record Diagnostic : Type 0 where
  pub line : ℕ
  pub column : ℕ
  pub sentence : List ℕ

-- the spelling of a diagnostic, without its line's end
abbrev pub diagnostic_text : Diagnostic → List ℕ
diagnostic_text diagnostic =
    codes "line "
    ++ (decimal diagnostic.line
    ++ (codes ", column "
    ++ (decimal diagnostic.column ++ (codes ": " ++ diagnostic.sentence))))

-- whether a byte is no end of a line
abbrev pub is_no_end : ℕ → Bool
is_no_end byte = not (nat_eq byte 10)

-- some bytes are in one line
abbrev pub IsInLine : List ℕ → Type 0
IsInLine bytes = list_all is_no_end bytes ≡ true

-- columns count from 1, and the column after the last byte is the line's end
abbrev pub IsColumn : List ℕ → ℕ → Type 0
IsColumn line column = (1 ≤ column) × (column ≤ length line + 1)

-- what was found of a line is true at its column, and the word of which it speaks is there
pub record IsPlaced (line : List ℕ) (trouble : Trouble) : Type 0 where
  pub column : IsColumn line trouble.column
  pub in_line : IsPlacedInLine line trouble.column trouble.what
  pub word : IfSome (word_of trouble.what) (λ word. IsWordAt line trouble.column word)

-- the diagnostic of a line of these bytes is in one line, and names a column of that one: that of
-- the word of which it speaks; a line that is too long, whether or not a byte 13 at its end counts,
-- is reported as that
pub record IsDiagnosticOf (bytes : List ℕ) (diagnostic : Diagnostic) : Type 0 where
  pub column : IsColumn bytes diagnostic.column
  pub in_line : IsInLine diagnostic.sentence
  pub speaks : SpeaksAt bytes diagnostic.column diagnostic.sentence
  pub long : 512 < length (without_return bytes) → diagnostic.sentence ≡ line_sentence TooLong

-- the same of a line of a text
abbrev pub IsDiagnosticIn : List ℕ → Diagnostic → Type 0
IsDiagnosticIn text diagnostic = IsDiagnosticOf (line_at diagnostic.line text) diagnostic

-- one more diagnostic is appended, of the line of that number and those bytes
pub record Reports (line : ℕ) (bytes old new : List ℕ) : Type 0 where
  pub diagnostic : Diagnostic
  pub at : diagnostic.line ≡ line
  pub good : IsDiagnosticOf bytes diagnostic
  pub more : new ≡ old ++ (diagnostic_text diagnostic ++ 10 ∷ [])

-- the reported lines rise, each above the one before
abbrev pub AreRising : ℕ → List Diagnostic → Type 0
AreRising above [] = Unit {0}
AreRising above (diagnostic ∷ others) = (above < diagnostic.line) × AreRising diagnostic.line others

-- the last reported line, where that one is reported before
abbrev pub last_line : ℕ → List Diagnostic → ℕ
last_line before [] = before
last_line before (diagnostic ∷ others) = last_line diagnostic.line others

-- the text means a line that is at fault in its place, and that one comes from this line of its own
pub record IsWrongOwn (text : List ℕ) (line : ℕ) : Type 0 where
  pub meant : ℕ
  pub own : own_line text meant ≡ line
  pub wrong : IsWrongLine (meant_of text) meant

-- that line is among the reported ones
abbrev pub IsAmong : ℕ → List Diagnostic → Type 0
IsAmong line [] = ⊥
IsAmong line (diagnostic ∷ others) = (diagnostic.line ≡ line) ⊎ IsAmong line others

-- the report on some lines of a text, that line first; each later one is at fault too; and none
-- that is wanted is left out: the own line of each such meant line is among them
pub record ReportsFrom (IsWanted : ℕ → Type 0) (text : List ℕ) (line : ℕ) (report : List ℕ)
    : Type 0 where
  pub first : Diagnostic
  pub others : List Diagnostic
  pub at : first.line ≡ line
  pub rising : AreRising line others
  pub good : All (IsDiagnosticIn text) (first ∷ others)
  pub wrong : All (λ other. IsWrongOwn text other.line) others
  pub none_left_out : (meant : ℕ) → IsWanted meant → IsAmong (own_line text meant) (first ∷ others)
  pub spelled : report ≡ lines_of diagnostic_text (first ∷ others)

-- the report on some lines up to that one, which is reported
pub record ReportsUpTo (IsWanted : ℕ → Type 0) (text : List ℕ) (line last : ℕ) (report : List ℕ)
    : Type 0 where
  pub from : ReportsFrom IsWanted text line report
  pub up_to : last_line line from.others ≡ last

-- a text is at fault: what it means is, and the line is the text's own
abbrev pub IsMeantFault : List ℕ → Fault → Type 0
IsMeantFault text fault = IsOwnFault (IsAtFault (kind_of (meant_of text))) text fault

-- a text is at fault, and the line of the fault is reported first
pub record ReportsFault (IsFault : Fault → Type 0) (IsWanted : ℕ → Type 0) (text report : List ℕ)
    : Type 0 where
  pub fault : Fault
  pub is_fault : IsFault fault
  pub reports : ReportsFrom IsWanted text (line_of fault) report

-- the report is empty exactly where a text is right; any other is at fault, and the line of each
-- fault that it has is first; no wanted line is left out
pub record IsReportBy (IsRight : Type 0) (IsFault : Fault → Type 0) (IsWanted : ℕ → Type 0)
    (text report : List ℕ) : Type 0 where
  pub silent : (report ≡ []) ↔ IsRight
  pub at_fault : report ≢ [] → ReportsFault IsFault IsWanted text report
  pub first : (fault : Fault) → IsFault fault → ReportsFrom IsWanted text (line_of fault) report

-- that is the report on a text for the command of its kind, and no line that is at fault too is
-- left out
abbrev pub IsReportOf : List ℕ → List ℕ → Type 0
IsReportOf text report =
    IsReportBy (IsRead (kind_of (meant_of text)) (meant_of text)) (IsMeantFault text)
    (IsWrongToo (meant_of text)) text report

-- one more diagnostic is appended, of the line of that number and those bytes, with a sentence of
-- that kind
pub record ReportsOfKind (kind : FaultKind) (line : ℕ) (bytes old new : List ℕ) : Type 0 where
  pub reports : Reports line bytes old new
  pub of_kind : IsOfKind kind reports.diagnostic.sentence

-- of what kind a fault is
abbrev pub kind_of_fault : Fault → FaultKind
kind_of_fault (faults.TooLong line) = OfLength
kind_of_fault (faults.NoLabel line) = OfLabel
kind_of_fault fault = OfGrammar

-- the report begins with a sentence of that kind
pub record BeginsOfKind (kind : FaultKind) (report : List ℕ) : Type 0 where
  pub first : Diagnostic
  pub rest : List ℕ
  pub begins : report ≡ diagnostic_text first ++ 10 ∷ rest
  pub of_kind : IsOfKind kind first.sentence

-- nothing of the report is lost
pub record Grows (old new : List ℕ) : Type 0 where
  pub more : List ℕ
  pub grown : new ≡ old ++ more
