-- A fact of the children in the state that parts mean. It is proved here, so nobody has to believe
-- it.
use Rattle.std.proofs.Common.{◌≡◌, ℕ, zero, suc, List, [], refl}
use Rattle.tx_change.specs.States.{state_of}
use Rattle.tx_change.specs.declared.parts.Parts.{Parts}
use Rattle.tx_model.specs.Processes.{children_below}
use Rattle.tx_model.specs.State.{Sending}
use Rattle.tx_proc.specs.ChildFacts.{no_child}
use Rattle.tx_proc.specs.Children.{child_count}

-- a process that no process has as its parent has no children below any number
pub no_children : (p n : ℕ) (held : ℕ → List Sending) (parts : Parts)
    → child_count p parts.procs ≡ 0 → children_below p n (state_of held parts) ≡ []
unfolding children_below
no_children p zero held parts none = refl
no_children p (suc q) held parts none =
    rw (no_child p parts.procs q none) (no_children p q held parts none)
