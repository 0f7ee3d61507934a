-- What one read or write does to an end.
use Rattle.std.specs.Prelude.{◌≡◌, ℕ, ◌+◌, ◌^◌, ◌<◌, ◌≤◌, List, Option, length, take}
use Rattle.std.specs.Io.KnownBytes.{Keeps, Appends, Consumes, IsAtEnd}
use Rattle.tx_lines.specs.declared.ends.flow.Flow.{Flow}
use Rattle.tx_lines.specs.declared.ends.flow.Flow.TheVariants.{Bytes, Again, Failed}

-- how often an end was interrupted, failed, and took no byte
pub record Counts : Type 0 where
  pub again : ℕ
  pub failed : ℕ
  pub empty : ℕ

-- none of the counts is at its last value
pub record HasRoom (counts : Counts) : Type 0 where
  pub again : counts.again + 1 < 2 ^ 64
  pub failed : counts.failed + 1 < 2 ^ 64
  pub empty : counts.empty + 1 < 2 ^ 64

-- none of the counts is near its last value
pub record IsFresh (counts : Counts) : Type 0 where
  pub again : counts.again < 2 ^ 63
  pub failed : counts.failed < 2 ^ 63
  pub empty : counts.empty < 2 ^ 63

-- a read: bytes from the front of what is left, none only at the end; or an interruption; or a
-- failure
abbrev pub Reads : Option (List ℕ) → Counts → Flow → Option (List ℕ) → Counts → List ℕ → Type 0
Reads left counts (Bytes n) left' counts' room' =
    (n ≤ length room')
    × Consumes left left' (take n room')
    × (counts' ≡ counts)
    × (n ≡ 0 → 0 < length room' → IsAtEnd left')
Reads left counts Again left' counts' room' =
    Keeps left left' × (counts' ≡ record counts { again = counts.again + 1 })
Reads left counts Failed left' counts' room' =
    Keeps left left' × (counts' ≡ record counts { failed = counts.failed + 1 })

-- a write: bytes of the front of what was given; or an interruption; or a failure
abbrev pub Writes : Option (List ℕ) → Counts → List ℕ → Flow → Option (List ℕ) → Counts → Type 0
Writes written counts given (Bytes n) written' counts' =
    (n ≤ length given)
    × Appends written written' (take n given)
    × (n ≡ 0 → counts' ≡ record counts { empty = counts.empty + 1 })
    × (0 < n → counts' ≡ counts)
Writes written counts given Again written' counts' =
    Keeps written written' × (counts' ≡ record counts { again = counts.again + 1 })
Writes written counts given Failed written' counts' =
    Keeps written written' × (counts' ≡ record counts { failed = counts.failed + 1 })
