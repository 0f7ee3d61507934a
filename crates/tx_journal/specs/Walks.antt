-- How the entries that are made can be taken back, one after another, and made again.
use Rattle.std.specs.Prelude.{◌≡◌, List, [], ◌∷◌}
use Rattle.tx_base.specs.declared.steps.Accepted.{Accepted}
use Rattle.tx_change.specs.declared.change.Change.{Change}
use Rattle.tx_core.specs.Machines.{IsMachine}
use Rattle.tx_core.specs.Undo.{LeadsBack}
use Rattle.tx_content.specs.Content.{view_of}
use Rattle.tx_content.specs.Inverses.{Undoes}
use Rattle.tx_content.specs.Redone.{EndsWhole, IsTakenBack}
use Rattle.tx_content.specs.declared.content.Content.{Content}
use Rattle.tx_content.specs.declared.inverse.Inverse.{Inverse}
use Rattle.tx_content.specs.declared.undone.Undone.{Undone}
use Rattle.tx_model.specs.State.{State}
use Rattle.tx_model.specs.View.{view}

-- a machine that keeps this has the view of the history, and each inverse, the newest first, leads
-- it back to what has the view of the history without its newest step
unfoldable pub WalksBack : State → Content → List Inverse → List Accepted → Type 0
WalksBack start k [] [] = view_of k ≡ view start []
WalksBack start k [] (e ∷ earlier) = ⊥
WalksBack start k (inverse ∷ inverses) [] = ⊥
WalksBack start k (inverse ∷ inverses) (e ∷ earlier) =
    (view_of k ≡ view start (e ∷ earlier))
    × LeadsBack k inverse
    × ((before : Content) × Undoes k inverse before × WalksBack start before inverses earlier)
    × EndsWhole k inverse

-- what makes again entries that were taken back, the next one first, with its changes on top of the
-- stack: each leads a machine that keeps this to what has the view of one more entry. No more of
-- these are kept than entries follow
unfoldable pub WalksOn : State → Content → List Undone → List Change → List Accepted → List Accepted
    → Type 0
WalksOn start k [] stack made later = Unit {0}
WalksOn start k (undone ∷ rest) stack made [] = ⊥
WalksOn start k (undone ∷ rest) stack made (e ∷ later) =
    (after : Content)
    × (below : List Change)
    × IsMachine after
    × (view_of after ≡ view start (e ∷ made))
    × IsTakenBack k undone stack after below
    × WalksOn start after rest below (e ∷ made) later
