-- What whole texts are answered: as by the program's commands.
use Rattle.std.specs.Prelude.{◌≡◌, ◌≢◌, ◌⊎◌, ℕ, ◌<◌, ◌≤◌, List, [], Ok, length, string_bytes}
use Rattle.tx_check.specs.Diagnostics.{IsReportOf}
use Rattle.tx_lines.specs.Schedule.{FaultsBy}
use Rattle.tx_lines.specs.declared.faults.Fault.{Fault}
use Rattle.tx_lines.specs.declared.faults.Fault.TheVariants.{TooLong}
use Rattle.tx_translate.specs.Meant.{IsOwnFault}
use Rattle.tx_script.specs.Grammars.{AnswersText, Grammar}
use Rattle.tx_answers.specs.Faults.{ReportsFault}
use Rattle.tx_answers.specs.declared.answers.Answer.{Answer}
use Rattle.tx_answers.specs.declared.answers.Answer.TheVariants.{NoMemory, Read, Unread}

-- a text is longer than a command reads
abbrev pub IsTooLong : List ℕ → Type 0
IsTooLong text = 1048576 < length text

-- the fault of a text of a grammar, or of one that is too long
abbrev pub IsFaultIn : {A : Type 0} → Grammar A → List ℕ → Fault → Type 0
IsFaultIn G text fault =
    (IsTooLong text × (fault ≡ TooLong 0))
    ⊎ ((length text ≤ 1048576) × FaultsBy (IsOwnFault G.IsFault text) fault)

-- what a text of a grammar is answered, or its fault
abbrev pub IsAnswered : {A : Type 0} → Grammar A → List ℕ → Answer → Type 0
IsAnswered G text (Read answer) = (length text ≤ 1048576) × AnswersText G text (Ok answer)
IsAnswered G text (Unread words) =
    (fault : Fault) × IsFaultIn G text fault × ReportsFault fault (Unread words)
IsAnswered G text NoMemory = Unit {0}

-- what a check reports of a text: nothing where it can be read, else what is wrong with it
abbrev pub IsChecked : List ℕ → Answer → Type 0
IsChecked text (Read report) =
    (length text ≤ 1048576) × (string_bytes report ≡ []) × IsReportOf text (string_bytes report)
IsChecked text (Unread report) = (IsTooLong text × ReportsFault (TooLong 0) (Unread report))
    ⊎ ((length text ≤ 1048576) × (string_bytes report ≢ []) × IsReportOf text (string_bytes report))
IsChecked text NoMemory = Unit {0}
