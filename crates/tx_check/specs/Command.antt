-- How a text is read from one end, and the report on it written to another.
use Rattle.std.specs.Prelude.{◌≡◌, ◌==◌, ℕ, ◌+◌, ◌<◌, ◌≤◌, Bool, List, Option, length, take, ◌⊎◌, Result, Ok, Err, IfSome}
use Rattle.std.specs.Io.KnownBytes.{Appends, Keeps}
use Rattle.tx_lines.specs.Ends.{Counts}
use Rattle.tx_lines.specs.Whole.{IsCalm}
use Rattle.tx_lines.specs.declared.faults.Fault.{Fault}
use Rattle.tx_lines.specs.declared.faults.Fault.TheVariants.{TooLong, Reader, Writer, NoMemory}

-- a text of no more bytes than one may have was left to read, and that is the report on it
pub record Hears (Says : List ℕ → List ℕ → Type 0) (left : Option (List ℕ)) (report : List ℕ)
    : Type 0 where
  pub text : List ℕ
  pub whole : IfSome left (λ bytes. bytes ≡ text)
  pub short : length text ≤ 1048576
  pub said : Says text report

-- all of the report is written, and it is empty exactly where that is answered
pub record WritesReport (Says : List ℕ → List ℕ → Type 0) (left written : Option (List ℕ))
    (is_read : Bool) (written' : Option (List ℕ)) : Type 0 where
  pub report : List ℕ
  pub hears : Hears Says left report
  pub answer : is_read ≡ (length report == 0)
  pub bytes : Appends written written' report

-- so many bytes of the report are written
pub record WritesFront (Says : List ℕ → List ℕ → Type 0) (left written written' : Option (List ℕ))
    : Type 0 where
  pub report : List ℕ
  pub count : ℕ
  pub hears : Hears Says left report
  pub inside : count ≤ length report
  pub bytes : Appends written written' (take count report)

-- a text is read, and the report on it written, or a front of that, or nothing, as the fault says
abbrev pub Checks : (List ℕ → List ℕ → Type 0) → Option (List ℕ) → Counts → Option (List ℕ) → Counts
    → Result Bool Fault → Counts → Option (List ℕ) → Counts → Type 0
Checks Says left reads written writes (Ok is_read) reads' written' writes' =
    WritesReport Says left written is_read written' × IsCalm reads reads' × IsCalm writes writes'
Checks Says left reads written writes (Err (TooLong line)) reads' written' writes' =
    (line ≡ 0) × IfSome left (λ bytes. 1048576 < length bytes) × Keeps written written'
Checks Says left reads written writes (Err Reader) reads' written' writes' =
    ((reads.failed < reads'.failed) ⊎ (reads'.again ≡ reads.again + 1001)) × Keeps written written'
Checks Says left reads written writes (Err Writer) reads' written' writes' =
    WritesFront Says left written written'
    × ((writes.failed < writes'.failed)
    ⊎ ((writes.empty < writes'.empty) ⊎ (writes'.again ≡ writes.again + 1001)))
Checks Says left reads written writes (Err NoMemory) reads' written' writes' =
    Keeps written written'
Checks Says left reads written writes (Err _) reads' written' writes' = ⊥
