-- Exchanges of parts of one process.
use Rattle.std.specs.Prelude.{◌≡◌, ℕ, List, [], ◌∷◌}
use Rattle.tx_change.specs.declared.change.Change.{Change}
use Rattle.tx_change.specs.declared.change.Change.TheVariants.{Part}
use Rattle.tx_proc.specs.Parts.{edited_once, HasPlace}
use Rattle.tx_proc.specs.declared.proc.Proc.{Proc}

-- a process with the part replaced that the change has
abbrev pub edited_by : Proc → Change → Proc
edited_by proc (Part pid part) = edited_once proc part
edited_by proc change = proc

-- a process with each part replaced, the first one first
abbrev pub edited : Proc → List Change → Proc
edited proc [] = proc
edited proc (change ∷ changes) = edited (edited_by proc change) changes

-- the same, the last one first
abbrev pub edited_back : Proc → List Change → Proc
edited_back proc [] = proc
edited_back proc (change ∷ changes) = edited_by (edited_back proc changes) change

-- the change has a part of process n
abbrev pub IsOf : ℕ → Change → Type 0
IsOf n (Part pid part) = (pid.0 ≡ n) × HasPlace part
IsOf n change = ⊥

abbrev pub AreOf : ℕ → List Change → Type 0
AreOf n [] = Unit {0}
AreOf n (change ∷ changes) = IsOf n change × AreOf n changes
