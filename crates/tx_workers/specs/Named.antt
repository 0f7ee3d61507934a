-- The step that a program names for a process. Own rules.
use Rattle.std.specs.Prelude.{ℕ, ◌==◌, List, pos, Option, Some, None, is_none, if◌then◌else◌, slice_get, option_map}
use Rattle.tx_base.specs.declared.names.Regs.{Regs}
use Rattle.tx_base.specs.declared.steps.Call.{Call}
use Rattle.tx_base.specs.declared.steps.Call.TheVariants.{Exit, Fork, Pipe}
use Rattle.tx_base.specs.declared.steps.Step.{Step}
use Rattle.tx_base.specs.declared.steps.Step.TheVariants.{Call as Calls, Deliver}
use Rattle.tx_model.specs.FreeNumbers.{free_numbers, Free}
use Rattle.tx_model.specs.Membership.{inside_by}
use Rattle.tx_model.specs.State.{Process}
use Rattle.tx_model.specs.View.{View, present}
use Rattle.tx_lines.specs.Filled.{filled}
use Rattle.tx_lines.specs.declared.instructions.Instruction.{Instruction}
use Rattle.tx_workers.specs.Offers.{offered}

-- the process, where it runs
abbrev pub running : Option Process → Option Process
running None = None
running (Some me) = if is_none me.status then Some me else None

-- a fork whose child has that number
abbrev pub fork_of : ℕ → Call
fork_of child = Fork (record { 0 = child })

-- a pipe with those numbers
abbrev pub pipe_of : Option ℕ → Option (ℕ × ℕ) → Option Call
pipe_of None descs = None
pipe_of (Some pipe) None = None
pipe_of (Some pipe) (Some descs) =
    Some (Pipe (record { 0 = pipe }) (record { 0 = descs.0 }) (record { 0 = descs.1 }))

-- a call with the numbers that it chooses, the least that are free; nothing where none is
abbrev pub chosen : Free → Call → Option Call
chosen free (Fork child) = option_map fork_of free.proc
chosen free (Pipe pipe read write) = pipe_of free.pipe free.descs
chosen free call = Some call

-- the call of process p with those registers, by the instruction at its point; past the last one it
-- exits, but for process 1
abbrev pub instructed : View → ℕ → Regs → Option Instruction → Option Call
instructed V p regs (Some instruction) = chosen (free_numbers V p) (filled regs.slots instruction)
instructed V p regs None = if p == 1 then None else Some (Exit (pos 0))

-- a signal that is offered is delivered before a call is made
abbrev pub step_of : ℕ → Option ℕ → Option Call → Option Step
step_of p (Some signo) call = Some (Deliver (record { 0 = p }) (record { 0 = signo }))
step_of p None None = None
step_of p None (Some call) = Some (Calls (record { 0 = p }) call)

-- the step that the instructions name for process p, if it runs
abbrev pub named_for : List Instruction → View → ℕ → Option Process → Option Step
named_for instructions V p None = None
named_for instructions V p (Some me) =
    step_of p (offered (inside_by V.table (V.table.marks p)) me)
    (instructed V p me.registers (slice_get instructions me.registers.point))

abbrev pub named : List Instruction → View → ℕ → Option Step
named instructions V p = named_for instructions V p (running ((present V).procs p))
