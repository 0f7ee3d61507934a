-- Since which step a transaction has reserved an object.
use Rattle.std.specs.Prelude.{ℕ, suc, Bool, false, not, ◌&&◌, ◌==◌, List, [], ◌∷◌, Option, Some, None, length, if◌then◌else◌}
use Rattle.tx_base.specs.declared.steps.Accepted.{Accepted}
use Rattle.tx_base.specs.declared.steps.Step.{Step}
use Rattle.tx_journal.specs.declared.since.Touch.{Touch}
use Rattle.tx_content.specs.declared.inverse.Inverse.{Inverse}
use Rattle.tx_content.specs.declared.inverse.Inverse.TheVariants.{Outside, Inside, Begun, Committed, Aborted}
use Rattle.tx_content.specs.declared.member_step.MemberStep.{MemberStep}
use Rattle.tx_model.specs.History.{reserved_of}
use Rattle.tx_model.specs.State.{Object, State}
use Rattle.tx_reserve.specs.Objects.{is_in}

-- a step, and its number
pub record Numbered : Type 0 where
  pub number : ℕ
  pub step : Step

-- the step that was found
abbrev pub numbered : Touch → Numbered
numbered touch = record { number = touch.number; step = touch.step.now }

-- the first step since which the transaction of s has reserved the object, after each step up to
-- now: before that one it had not. None if it has not reserved it now
unfoldable pub first_touch : State → List Accepted → ℕ → Object → Option Numbered
first_touch S [] s o = None
first_touch S (e ∷ h) s o =
    if reserved_of S (e ∷ h) s o
    then (if reserved_of S h s o
    then first_touch S h s o
    else Some (record { number = suc (length h); step = e.step }))
    else None

-- whether it is a step inside the transaction of s before which that had not reserved the object
abbrev pub is_first : ℕ → Object → MemberStep → Bool
is_first s o step = step.starter.0 == s && not (is_in step.objects o)

-- whether it was a step of the transaction of s before which the transaction had not reserved the
-- object
abbrev pub comes_first : ℕ → Object → Inverse → Bool
comes_first s o (Outside log post) = false
comes_first s o (Inside step held) = is_first s o step
comes_first s o (Begun starter) = starter.0 == s
comes_first s o (Committed boxed count held) = false
comes_first s o (Aborted boxed stood) = false

-- the newest such step, by what takes back each step of a history. Both lists have the newest first
unfoldable pub newest_first : ℕ → Object → List Inverse → List Accepted → Option Numbered
newest_first s o [] h = None
newest_first s o (inverse ∷ inverses) [] = None
newest_first s o (inverse ∷ inverses) (e ∷ h) =
    if comes_first s o inverse
    then Some (record { number = suc (length h); step = e.step })
    else newest_first s o inverses h
