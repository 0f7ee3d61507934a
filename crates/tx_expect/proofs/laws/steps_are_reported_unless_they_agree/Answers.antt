use Rattle.std.proofs.Common.{◌≡◌, ℕ, Bool, true, false, ◌⊎◌, inl, inr, Option, Some, None, List, refl}
use Rattle.tx_base.specs.declared.steps.Reply.{Reply}
use Rattle.tx_base.specs.declared.steps.Step.{Step}
use Rattle.tx_expect.specs.Agreement.{agrees}
use Rattle.tx_expect.specs.Laws.{IsReported}
use Rattle.tx_expect.proofs.laws.steps_are_reported_unless_they_agree.Goals as goal

two_ways : (test : Bool) → (test ≡ true) ⊎ (test ≡ false)
two_ways true = inl refl
two_ways false = inr refl

reported : (number : ℕ) (step : Step) (expected : Option (List ℕ)) (reply : Reply) → IsReported number step expected reply
reported number step None reply = record {
  silent = (λ none. inl refl, λ either. refl);
  met = (λ met. cc, λ none. absurd none);
}
reported number step (Some expected) reply =
    elim (two_ways (agrees expected reply)) [
      | inl same ↦ record {
        silent = (λ none. inr same, λ either. rw same refl);
        met = (λ met. same, λ is. rw same refl);
      }
      | inr other ↦ record {
        silent = (λ none. absurd (let report = rw other at none in cc), λ either. elim either [ inl none ↦ cc | inr is ↦ cc ]);
        met = (λ met. absurd (let unmet = rw other at met in cc), λ is. cc);
      }
    ]

pub returns : goal.returns
returns c = reported
