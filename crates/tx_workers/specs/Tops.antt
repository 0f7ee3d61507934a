-- The number above which there is no process. Own rules.
use Rattle.std.specs.Prelude.{◌≡◌, ℕ, ◌<◌, ◌≤◌, false, All}
use Rattle.tx_base.specs.declared.steps.Call.TheVariants.{Fork}
use Rattle.tx_base.specs.declared.steps.Step.{Step}
use Rattle.tx_base.specs.declared.steps.Step.TheVariants.{Call as Calls}
use Rattle.tx_journal.specs.Sessions.{SessionState}
use Rattle.tx_model.specs.Answer.{is_running}
use Rattle.tx_model.specs.View.{View, present}

-- no process above that number runs
abbrev pub NoneRunsOver : ℕ → View → Type 0
NoneRunsOver top V =
    (n : ℕ) → top < n → n ≤ V.table.width → is_running ((present V).procs n) ≡ false

-- the step makes no process above that number
abbrev pub IsWithin : ℕ → Step → Type 0
IsWithin top (Calls pid (Fork child)) = child.0 ≤ top
IsWithin top step = Unit {0}

-- no process of the session was booted above that number, and none was made since
pub record HasTop (top : ℕ) (session : SessionState) : Type 0 where
  pub booted : session.count ≤ top
  pub made : All (λ entry. IsWithin top entry.step) session.entries
