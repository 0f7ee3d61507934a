-- Whose transaction a step may begin or end.
use Rattle.std.specs.Prelude.{ℕ, Bool, true, false, Option, Some, None, is_some}
use Rattle.tx_base.specs.declared.marks.Mark.{Mark}
use Rattle.tx_base.specs.declared.steps.Call.TheVariants.{SysXabort}
use Rattle.tx_base.specs.declared.steps.Step.{Step}
use Rattle.tx_base.specs.declared.steps.Step.TheVariants.{Call as Calls, Deliver, KernelAbort}
use Rattle.tx_model.specs.Membership.{Table}

-- the starter whose transaction a mark of process p names, or would name if p began one
abbrev pub starter_by : ℕ → Option Mark → ℕ
starter_by p None = p
starter_by p (Some m) = m.starter.0

-- whose transaction a step may begin or end
abbrev pub starter_of : Table → Step → ℕ
starter_of t (Calls p call) = starter_by p.0 (t.marks p.0)
starter_of t (Deliver p signo) = starter_by p.0 (t.marks p.0)
starter_of t (KernelAbort s) = s.0

-- whether the step's place was reserved at the sys_xbegin of the transaction that it aborts: so for
-- the kernel's abort, and a member's
abbrev pub has_place : Table → Step → Bool
has_place t (Calls p SysXabort) = is_some (t.marks p.0)
has_place t (Calls p call) = false
has_place t (Deliver p signo) = false
has_place t (KernelAbort s) = true
