-- How a fault is reported.
use Rattle.std.specs.Prelude.{◌≡◌, ◌≢◌, ℕ, List, ◌++◌, codes, string_bytes}
use Rattle.std.specs.Fmt.{decimal}
use Rattle.tx_lines.specs.declared.faults.Fault.{Fault}
use Rattle.tx_lines.specs.declared.faults.Fault.TheVariants as faults
use Rattle.tx_answers.specs.declared.answers.Answer.{Answer}
use Rattle.tx_answers.specs.declared.answers.Answer.TheVariants.{NoMemory, Read, Unread}

-- the words of a fault, as the program prints them
abbrev pub fault_text : Fault → List ℕ
fault_text (faults.NotALine line) = codes "F1 line " ++ decimal line
fault_text (faults.NoLabel line) = codes "F2 line " ++ decimal line
fault_text (faults.TooLong line) = codes "F3 line " ++ decimal line
fault_text faults.Reader = codes "F4"
fault_text faults.Writer = codes "F5"
fault_text faults.NoMemory = codes "F6"

-- a fault is reported by its words; that memory was refused only by the status, also where the
-- words want some
abbrev pub ReportsFault : Fault → Answer → Type 0
ReportsFault fault (Read text) = ⊥
ReportsFault fault (Unread text) =
    (fault ≢ faults.NoMemory) × (string_bytes text ≡ fault_text fault)
ReportsFault fault NoMemory = Unit {0}
