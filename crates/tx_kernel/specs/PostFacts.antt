-- Facts of what a post changes. They follow from the definitions and are proved here, so nobody has
-- to believe them.
use Rattle.std.proofs.Common.{◌≡◌, [], Option, Some, None, option_map, refl}
use Rattle.tx_base.specs.Slots.{slot_at}
use Rattle.tx_change.specs.declared.parts.Parts.{Parts}
use Rattle.tx_kernel.specs.Posts.{IsButPending}
use Rattle.tx_proc.specs.Parts.{with_pending}
use Rattle.tx_proc.specs.declared.proc.Proc.{Proc}
use Rattle.tx_signal.specs.Parts.{PendingView}

-- a process is the same with what is pending at it
pub same_slot : (slot : Option Proc)
    → (pending : PendingView) × (slot ≡ option_map (with_pending pending) slot)
same_slot None = (record { standard = 0; queued = [] }, refl)
same_slot (Some proc) = (proc.pending, refl)

pub but_none : (parts : Parts) → IsButPending parts parts
but_none parts =
    record {
      width = refl;
      each = λ n. same_slot (slot_at parts.procs n);
      descs = refl;
      pipes = refl;
    }
