-- How a whole text is read, and how one is written.
use Rattle.std.specs.Prelude.{◌≡◌, ℕ, ◌+◌, ◌<◌, ◌≤◌, List, Option, length, take, ◌⊎◌, Result, Ok, Err, Vec, IfSome}
use Rattle.std.specs.Io.KnownBytes.{Appends, Consumes, IsAtEnd}
use Rattle.tx_lines.specs.Ends.{Counts}
use Rattle.tx_lines.specs.declared.faults.Fault.{Fault}
use Rattle.tx_lines.specs.declared.faults.Fault.TheVariants.{NotALine, NoLabel, TooLong, Reader, Writer, NoMemory}

-- neither a failure nor an empty write came, and at most a thousand interruptions
pub record IsCalm (counts counts' : Counts) : Type 0 where
  pub again : counts'.again ≤ counts.again + 1000
  pub failed : counts'.failed ≡ counts.failed
  pub empty : counts'.empty ≡ counts.empty

-- all that was left is read; or it is too long; or the source failed, or was interrupted once too
-- often
abbrev pub ReadsWhole : {A : Type 0} → Option (List ℕ) → Counts → Result (Vec ℕ A) Fault
    → Option (List ℕ) → Counts → Type 0
ReadsWhole left counts (Ok text) left' counts' =
    Consumes left left' text.items
    × IsAtEnd left'
    × (length text.items ≤ 1048576)
    × IsCalm counts counts'
ReadsWhole left counts (Err (TooLong line)) left' counts' =
    (line ≡ 0) × IfSome left (λ bytes. 1048576 < length bytes)
ReadsWhole left counts (Err Reader) left' counts' =
    (counts.failed < counts'.failed) ⊎ (counts'.again ≡ counts.again + 1001)
ReadsWhole left counts (Err NoMemory) left' counts' = Unit {0}
ReadsWhole left counts (Err Writer) left' counts' = ⊥
ReadsWhole left counts (Err (NotALine line)) left' counts' = ⊥
ReadsWhole left counts (Err (NoLabel line)) left' counts' = ⊥

-- all of it is written; or a front of it, and the sink failed, took no byte, or was interrupted
-- once too often
abbrev pub WritesWhole : Option (List ℕ) → Counts → List ℕ → Result (Unit {0}) Fault
    → Option (List ℕ) → Counts → Type 0
WritesWhole written counts text (Ok _) written' counts' =
    Appends written written' text × IsCalm counts counts'
WritesWhole written counts text (Err Writer) written' counts' =
    ((n : ℕ) × (n ≤ length text) × Appends written written' (take n text))
    × ((counts.failed < counts'.failed)
    ⊎ ((counts.empty < counts'.empty) ⊎ (counts'.again ≡ counts.again + 1001)))
WritesWhole written counts text (Err (NotALine line)) written' counts' = ⊥
WritesWhole written counts text (Err (NoLabel line)) written' counts' = ⊥
WritesWhole written counts text (Err (TooLong line)) written' counts' = ⊥
WritesWhole written counts text (Err Reader) written' counts' = ⊥
WritesWhole written counts text (Err NoMemory) written' counts' = ⊥
