-- What a step shows on the console. Own rules.
use Rattle.std.specs.Prelude.{◌≡◌, ◌≤◌, ℕ, length}
use Rattle.arrayvec.specs.ArrayVec.{ArrayVec}
use Rattle.tx_base.specs.declared.limits.TheConstants.{CONSOLE_BYTES}
use Rattle.tx_base.specs.declared.steps.Reply.TheVariants.{Out}
use Rattle.tx_base.specs.declared.steps.Step.{Step}
use Rattle.tx_model.specs.View.{View}
use Rattle.tx_model.specs.Answer.{answer}

-- what a step shows fits its reply, on whatever view
abbrev pub ShowsFew : Type 0
ShowsFew =
    (view : View) (step : Step) (bytes : ArrayVec ℕ) → answer view step ≡ Out bytes
    → length bytes.items ≤ CONSOLE_BYTES
