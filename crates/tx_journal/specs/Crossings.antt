-- What leads over the entries of a session.
use Rattle.std.specs.Prelude.{◌≡◌, ◌⊎◌, ℕ, ◌+◌, List, [], ◌∷◌, ◌++◌, length, filter_map, take, drop}
use Rattle.tx_change.specs.Stacks.{below_top}
use Rattle.tx_change.specs.declared.change.Change.{Change}
use Rattle.tx_core.specs.Undo.{LeadsBack}
use Rattle.tx_content.specs.Crossings.{inverse_at, undone_at}
use Rattle.tx_content.specs.Inverses.{Undoes}
use Rattle.tx_content.specs.Redone.{moved_by, EndsWhole, IsTakenBack}
use Rattle.tx_content.specs.declared.content.Content.{Content}
use Rattle.tx_content.specs.declared.crossing.Crossing.{Crossing}
use Rattle.tx_content.specs.declared.inverse.Inverse.{Inverse}
use Rattle.tx_content.specs.declared.undone.Undone.{Undone}

-- what takes back the entries that are made, the oldest first; what is kept to make those after
-- them again, the next one first; the changes on its stack; and for how many entries there is room
pub record Crossed : Type 0 where
  pub inverses : List Inverse
  pub undone : List Undone
  pub stack : List Change
  pub room : ℕ

-- the places of this many entries that are made lead back
abbrev pub inverses_in : List Crossing → ℕ → List Inverse
inverses_in places made = filter_map inverse_at (take made places)

-- those after them lead forward
abbrev pub undone_in : List Crossing → ℕ → List Undone
undone_in places made = filter_map undone_at (drop made places)

abbrev pub crossed_in : List Crossing → ℕ → List Change → ℕ → Crossed
crossed_in places made stack room =
    record {
      inverses = inverses_in places made;
      undone = undone_in places made;
      stack = stack;
      room = room;
    }

-- the first of them, this many, lead back, and those after them forward
pub record IsParted (places : List Crossing) (made : ℕ) : Type 0 where
  pub count : length (inverses_in places made) ≡ made
  pub long : length places ≡ made + length (undone_in places made)

-- what makes the step again is kept, as the next one; or nothing is kept
abbrev pub KeepsBack : Content → Content → Crossed → Crossed → Type 0
KeepsBack before after old new =
    (new.undone ≡ [])
    ⊎ ((undone : Undone)
    × (new.undone ≡ undone ∷ old.undone)
    × IsTakenBack before undone new.stack after old.stack)

-- the newest entry that was made, which had this inverse, was taken back
pub record GoesBack (k : Content) (old : Crossed) (before : Content) (new : Crossed)
    (rest : List Inverse) (inverse : Inverse) : Type 0 where
  pub inverses : new.inverses ≡ rest
  pub back : (prior : Content) → Undoes k inverse prior → before ≡ prior
  pub kept : EndsWhole k inverse → KeepsBack before k old new
  pub room : new.room ≡ old.room

-- the next entry was made again by what was kept of it
pub record GoesForward (k : Content) (old : Crossed) (after : Content) (new : Crossed)
    (next : Undone) (rest : List Undone) : Type 0 where
  pub inverse : Inverse
  pub inverses : new.inverses ≡ old.inverses ++ inverse ∷ []
  pub undone : new.undone ≡ rest
  pub stack : new.stack ≡ below_top (moved_by next) old.stack
  pub made : (content : Content) (below : List Change) → IsTakenBack k next old.stack content below
      → after ≡ content
  pub leads : LeadsBack after inverse
  pub undoes : Undoes after inverse k
  pub whole : EndsWhole after inverse
  pub room : new.room ≡ old.room

-- the same leads over the entries; there may be more room
pub record SameCrossed (new old : Crossed) : Type 0 where
  pub inverses : new.inverses ≡ old.inverses
  pub undone : new.undone ≡ old.undone
  pub stack : new.stack ≡ old.stack
