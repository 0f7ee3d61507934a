-- A process that no process has as its parent.
use Rattle.std.proofs.Common.{◌≡◌, ℕ, List, [], ap, sym, ◌++◌, ◌∙◌, append-nil}
use Rattle.tx_change.specs.ChildFacts.{no_children}
use Rattle.tx_change.specs.declared.change.Change.{Change}
use Rattle.tx_change.specs.declared.parts.Parts.{Parts}
use Rattle.tx_kernel.specs.Endings.{orphan_changes, plain}
use Rattle.tx_model.specs.Processes.{children_below}
use Rattle.tx_proc.specs.Children.{child_count}

pub no_orphans : (p n : ℕ) (parts : Parts) (log : List Change) → child_count p parts.procs ≡ 0 → log ≡ log ++ orphan_changes (children_below p n (plain parts))
no_orphans p n parts log none =
    sym (append-nil log) ∙ ap (λ (qs : List ℕ). log ++ orphan_changes qs) (sym (no_children p n (λ starter. []) parts none))
