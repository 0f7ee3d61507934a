-- How a text is read from one end, and the text that it means written to another.
use Rattle.std.specs.Prelude.{◌≡◌, ℕ, ◌+◌, ◌<◌, ◌≤◌, List, Option, length, take, ◌⊎◌, Result, Ok, Err, IfSome}
use Rattle.std.specs.Io.KnownBytes.{Appends, Keeps}
use Rattle.tx_lines.specs.Ends.{Counts}
use Rattle.tx_lines.specs.Whole.{IsCalm}
use Rattle.tx_lines.specs.declared.faults.Fault.{Fault}
use Rattle.tx_lines.specs.declared.faults.Fault.TheVariants.{NotALine, NoLabel, TooLong, Reader, Writer, NoMemory}
use Rattle.tx_translate.specs.Meant.{meant_of}

-- what the text means that was left to read
pub record IsMeantOfLeft (left : Option (List ℕ)) (meant : List ℕ) : Type 0 where
  pub text : List ℕ
  pub whole : IfSome left (λ bytes. bytes ≡ text)
  pub same : meant ≡ meant_of text

-- all of it is written
pub record WritesMeant (left written written' : Option (List ℕ)) : Type 0 where
  pub meant : List ℕ
  pub of_left : IsMeantOfLeft left meant
  pub bytes : Appends written written' meant

-- so many bytes of it are written
pub record WritesFront (left written written' : Option (List ℕ)) : Type 0 where
  pub meant : List ℕ
  pub count : ℕ
  pub of_left : IsMeantOfLeft left meant
  pub inside : count ≤ length meant
  pub bytes : Appends written written' (take count meant)

-- a text is read, and what it means written, or a front of that, or nothing, as the fault says
abbrev pub TranslatesText : Option (List ℕ) → Counts → Option (List ℕ) → Counts
    → Result (Unit {0}) Fault → Counts → Option (List ℕ) → Counts → Type 0
TranslatesText left reads written writes (Ok _) reads' written' writes' =
    WritesMeant left written written' × IsCalm reads reads' × IsCalm writes writes'
TranslatesText left reads written writes (Err (TooLong line)) reads' written' writes' =
    (line ≡ 0) × IfSome left (λ bytes. 1048576 < length bytes) × Keeps written written'
TranslatesText left reads written writes (Err Reader) reads' written' writes' =
    ((reads.failed < reads'.failed) ⊎ (reads'.again ≡ reads.again + 1001)) × Keeps written written'
TranslatesText left reads written writes (Err Writer) reads' written' writes' =
    WritesFront left written written'
    × ((writes.failed < writes'.failed)
    ⊎ ((writes.empty < writes'.empty) ⊎ (writes'.again ≡ writes.again + 1001)))
TranslatesText left reads written writes (Err NoMemory) reads' written' writes' =
    Keeps written written'
TranslatesText left reads written writes (Err (NotALine line)) reads' written' writes' = ⊥
TranslatesText left reads written writes (Err (NoLabel line)) reads' written' writes' = ⊥
