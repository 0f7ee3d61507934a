-- Of which steps something is reported.
use Rattle.std.specs.Prelude.{◌≡◌, ℕ, true, List, [], Option, Some, None, ◌⊎◌, ◌↔◌}
use Rattle.tx_base.specs.declared.steps.Reply.{Reply}
use Rattle.tx_base.specs.declared.steps.Step.{Step}
use Rattle.tx_expect.specs.Agreement.{agrees}
use Rattle.tx_expect.specs.Lines.{step_report, step_verdict}
use Rattle.tx_expect.specs.declared.tallies.Verdict.TheVariants.{Met, Silent}

-- a reply is the one that a line expects
abbrev pub IsExpected : Option (List ℕ) → Reply → Type 0
IsExpected None reply = ⊥
IsExpected (Some expected) reply = agrees expected reply ≡ true

-- what is reported of the step of a line, and its verdict
pub record IsReported (number : ℕ) (step : Step) (expected : Option (List ℕ)) (reply : Reply)
    : Type 0 where
  pub silent :
      (step_report number step expected reply ≡ []) ↔
      ((expected ≡ None) ⊎ IsExpected expected reply)
  pub met : (step_verdict expected reply ≡ Met) ↔ IsExpected expected reply

abbrev pub StepsAreReported : Type 0
StepsAreReported =
    (number : ℕ) (step : Step) (expected : Option (List ℕ)) (reply : Reply)
    → IsReported number step expected reply
