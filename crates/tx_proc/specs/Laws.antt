-- The laws of exchanges of parts of a process.
use Rattle.std.specs.Prelude.{◌≡◌, false, length}
use Rattle.tx_proc.specs.Parts.{edited_once, is_same_part, part_of, HasPlace}
use Rattle.tx_proc.specs.declared.proc.Part.{Part}
use Rattle.tx_proc.specs.declared.proc.Proc.{Proc}

-- a process has a place for each number
pub record IsSized (proc : Proc) : Type 0 where
  pub slots : length proc.regs.slots ≡ 8
  pub pages : length proc.space ≡ 16
  pub descriptors : length proc.descriptors ≡ 16
  pub actions : length proc.actions ≡ 40

-- two exchanges of a part are nothing, to the process and to the part
abbrev pub TwiceIsNothing : Type 0
TwiceIsNothing = (proc : Proc) (part : Part) → IsSized proc → HasPlace part →
    (edited_once (edited_once proc part) (part_of proc part) ≡ proc)
    × (part_of (edited_once proc part) (part_of proc part) ≡ part)

-- to exchange the part again puts the process back, whatever places it has
abbrev pub ExchangesBack : Type 0
ExchangesBack =
    (proc : Proc) (part : Part) → edited_once (edited_once proc part) (part_of proc part) ≡ proc

-- an exchange leaves every other part as it was
abbrev pub NothingElse : Type 0
NothingElse =
    (proc : Proc) (part other : Part) → is_same_part part other ≡ false
    → part_of (edited_once proc part) other ≡ part_of proc other

-- two parts may be exchanged in either order
abbrev pub Commute : Type 0
Commute = (proc : Proc) (part other : Part) → is_same_part part other ≡ false →
    edited_once (edited_once proc part) other ≡ edited_once (edited_once proc other) part
