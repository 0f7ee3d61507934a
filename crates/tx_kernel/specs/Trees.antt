-- Children of a process.
use Rattle.std.specs.Prelude.{◌≡◌, ℕ, List, Option, Some, None, if◌then◌else◌, ◌==◌}
use Rattle.tx_base.specs.Slots.{slot_at}
use Rattle.tx_change.specs.Exchange.{IsPid, sizes_of}
use Rattle.tx_kernel.specs.declared.actor.Actor.{Actor}
use Rattle.tx_kernel.specs.declared.trees.Child.{Child}
use Rattle.tx_proc.specs.declared.proc.Proc.{Proc}

-- the process as a child of process p, if that is its parent
abbrev pub child_by : ℕ → ℕ → Option Proc → Option Child
child_by p t None = None
child_by p t (Some proc) =
    if proc.parent.0 == p
    then Some (record { pid = record { 0 = t }; status = proc.status })
    else None

-- the child of process p of a number that may be one
abbrev pub child_at : ℕ → List (Option Proc) → Option ℕ → Option Child
child_at p procs None = None
child_at p procs (Some t) = child_by p t (slot_at procs t)

-- the number has a process that ended with the status
pub record IsEndedChild (actor : Actor) (t : ℕ) (status : ℕ) : Type 0 where
  pub number : IsPid (sizes_of actor.parts.now) t
  pub proc : Proc
  pub there : slot_at actor.parts.now.procs t ≡ Some proc
  pub ended : proc.status ≡ Some status
