-- What holds for every content that steps lead to.
use Rattle.std.specs.Prelude.{◌≡◌, ℕ, ◌≤◌, [], None}
use Rattle.tx_base.specs.Slots.{slot_at}
use Rattle.tx_kernel.specs.Actors.{IsWhole}
use Rattle.tx_laws.specs.WellFormed.{IsWellFormed}
use Rattle.tx_laws.specs.WellFormedTable.{IsWellFormedView}
use Rattle.tx_content.specs.Content.{content_of, view_of, IsShaped}
use Rattle.tx_content.specs.declared.content.Content.{Content}
use Rattle.tx_model.specs.History.{Starters}
use Rattle.tx_model.specs.State.{boot_state}
use Rattle.tx_model.specs.View.{view}
use Rattle.tx_txn.specs.Content.{IsKept}

-- what holds for every content that steps lead to
pub record IsContent (k : Content) : Type 0 where
  pub shaped : IsShaped k
  pub kept : IsKept (content_of k)
  pub formed : (left_out : Starters) → IsWellFormed ((view_of k).without left_out)
  pub view : IsWellFormedView (view_of k)

-- no transaction is live
abbrev pub IsIdle : Content → Type 0
IsIdle k = (s : ℕ) → slot_at k.txns s ≡ None

-- such parts are whole
abbrev pub ContentsAreWhole : Type 0
ContentsAreWhole = (k : Content) → IsContent k → IsWhole k.parts

-- a booted kernel has such a content: its tables fit together, it is one of the laws, and it has
-- the view of no step
abbrev pub BootedIsContent : Type 0
BootedIsContent =
    (k : Content) (width count : ℕ) → 1 ≤ count → count ≤ width → IsShaped k → IsKept (content_of k)
    → view_of k ≡ view (boot_state width count) [] → IsContent k
