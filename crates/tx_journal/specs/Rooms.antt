-- The room of a journal.
use Rattle.std.specs.Prelude.{◌≡◌, ◌⊎◌, ℕ, ◌+◌, ◌≤◌, ◌++◌, ◌∷◌, [], true, length, vec_capacity}
use Rattle.tx_base.specs.declared.steps.Step.{Step}
use Rattle.tx_core.specs.Undo.{LeadsBack}
use Rattle.tx_journal.specs.Crossings.{SameCrossed}
use Rattle.tx_core.specs.Lives.{lives}
use Rattle.tx_journal.specs.Lives.{has_place}
use Rattle.tx_journal.specs.declared.entry.Entry.{Entry}
use Rattle.tx_journal.specs.declared.journal.Journal.{Journal}
use Rattle.tx_content.specs.Content.{view_of}
use Rattle.tx_content.specs.Inverses.{Undoes}
use Rattle.tx_content.specs.Redone.{EndsWhole}
use Rattle.tx_content.specs.declared.content.Content.{Content}
use Rattle.tx_content.specs.declared.inverse.Inverse.{Inverse}
use Rattle.tx_model.specs.Membership.{Table}

-- it has the same in it
pub record SameRecord (new old : Journal) : Type 0 where
  pub entries : new.entries.items ≡ old.entries.items
  pub crossings : SameCrossed new.crossings old.crossings

-- there is room for this many more entries, and for what takes them back
pub record HasPlaces (j : Journal) (count : ℕ) : Type 0 where
  pub entries : length j.entries.items + count ≤ vec_capacity j.entries
  pub inverses : length j.entries.items + count ≤ j.crossings.room

-- there is room for the abort of each live transaction
abbrev pub HasAbortPlaces : Content → Journal → Type 0
HasAbortPlaces k j = HasPlaces j (lives (view_of k).table)

-- there is room for the entry of a step, and for the abort of each transaction that is live after
-- it
abbrev pub IsReady : Table → Step → Journal → Type 0
IsReady t step j = HasPlaces j (lives t + 2) ⊎ (HasPlaces j (lives t) × (has_place t step ≡ true))

-- the entry was added, with what leads the content back
pub record IsAdded (k : Content) (j : Journal) (entry : Entry) (new : Content) (after : Journal)
    : Type 0 where
  pub inverse : Inverse
  pub entries : after.entries.items ≡ j.entries.items ++ entry ∷ []
  pub inverses : after.crossings.inverses ≡ j.crossings.inverses ++ inverse ∷ []
  pub undone : after.crossings.undone ≡ []
  pub leads : LeadsBack new inverse
  pub undoes : Undoes new inverse k
  pub whole : EndsWhole new inverse
  pub places : HasAbortPlaces new after
