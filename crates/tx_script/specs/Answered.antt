-- How a text is read from one end, and its answer written to another.
use Rattle.std.specs.Prelude.{◌≡◌, ℕ, ◌+◌, ◌<◌, ◌≤◌, List, Option, length, take, ◌⊎◌, Result, Ok, Err, IfSome}
use Rattle.std.specs.Io.KnownBytes.{Appends, Keeps}
use Rattle.tx_lines.specs.Ends.{Counts}
use Rattle.tx_script.specs.Grammars.{Grammar}
use Rattle.tx_lines.specs.Whole.{IsCalm}
use Rattle.tx_lines.specs.declared.faults.Fault.{Fault}
use Rattle.tx_translate.specs.Meant.{meant_of, IsOwnFault}
use Rattle.tx_lines.specs.declared.faults.Fault.TheVariants.{NotALine, NoLabel, TooLong, Reader, Writer, NoMemory}

-- what was left to read spells that, or means it by another text, and is no longer than a text may
-- be
pub record Spells {A : Type 0} (G : Grammar A) (left : Option (List ℕ)) (spelled : A) : Type 0 where
  pub good : G.IsGood spelled
  pub text : IfSome left (λ bytes. (length bytes ≤ 1048576) × (meant_of bytes ≡ G.text spelled))

-- so many bytes of its answer are written
pub record WritesFront {A : Type 0} (G : Grammar A) (written : Option (List ℕ)) (spelled : A)
    (count : ℕ) (written' : Option (List ℕ)) : Type 0 where
  pub inside : count ≤ length (G.answer spelled)
  pub bytes : Appends written written' (take count (G.answer spelled))

-- a text is read, and its answer written, or a front of it, or nothing, as the fault says
abbrev pub Answers : {A : Type 0} → Grammar A → Option (List ℕ) → Counts → Option (List ℕ) → Counts
    → Result (Unit {0}) Fault → Counts → Option (List ℕ) → Counts → Type 0
Answers {A} G left reads written writes (Ok _) reads' written' writes' =
    ((spelled : A) × Spells G left spelled × Appends written written' (G.answer spelled))
    × IsCalm reads reads'
    × IsCalm writes writes'
Answers G left reads written writes (Err (NotALine line)) reads' written' writes' =
    IfSome left (λ bytes. (length bytes ≤ 1048576) × IsOwnFault G.IsFault bytes (NotALine line))
    × Keeps written written'
Answers G left reads written writes (Err (NoLabel line)) reads' written' writes' =
    IfSome left (λ bytes. (length bytes ≤ 1048576) × IsOwnFault G.IsFault bytes (NoLabel line))
    × Keeps written written'
Answers G left reads written writes (Err (TooLong line)) reads' written' writes' =
    IfSome left
    (λ bytes.
    ((line ≡ 0) × (1048576 < length bytes))
    ⊎ ((length bytes ≤ 1048576) × IsOwnFault G.IsFault bytes (TooLong line)))
    × Keeps written written'
Answers G left reads written writes (Err Reader) reads' written' writes' =
    ((reads.failed < reads'.failed) ⊎ (reads'.again ≡ reads.again + 1001)) × Keeps written written'
Answers {A} G left reads written writes (Err Writer) reads' written' writes' =
    ((spelled : A)
    × (count : ℕ)
    × Spells G left spelled
    × WritesFront G written spelled count written')
    × ((writes.failed < writes'.failed)
    ⊎ ((writes.empty < writes'.empty) ⊎ (writes'.again ≡ writes.again + 1001)))
Answers G left reads written writes (Err NoMemory) reads' written' writes' = Keeps written written'
