-- Processes that have ended, and are at rest.
use Rattle.std.proofs.Common.{◌≡◌, ℕ, Option, Some, None, refl, sym, ap, ◌∙◌}
use Rattle.tx_base.specs.declared.names.Regs.{Regs}
use Rattle.tx_model.specs.State.{Process, State}
use Rattle.tx_reads_back.specs.StateTexts.{EndedRest, IsAtRest, RestingAreSame, shown, shown_registers}

resting_registers : (status : Option ℕ) (registers : Regs) → IsAtRest status registers → shown_registers status registers ≡ registers
resting_registers None registers rests = refl
resting_registers (Some status) registers rests = λ j. record { point = (sym rests.0) j; ret = (sym rests.1) j; slots = registers.slots }

resting_shown : (S : State) → EndedRest S → (n : ℕ) → shown (S.procs n) ≡ S.procs n
resting_shown S rests n = by (S.procs n) refl
  where
    by : (x : Option Process) → S.procs n ≡ x → shown x ≡ x
    by None is = refl
    by (Some q) is = λ j. Some (record q { registers = resting_registers q.status q.registers (rests n q is) j })

pub resting_same : RestingAreSame
resting_same S T S_rests T_rests e n = sym (resting_shown S S_rests n) ∙ ap (λ (R : State). R.procs n) e ∙ resting_shown T T_rests n
