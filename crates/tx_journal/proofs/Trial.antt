-- What a session shows after a step at its position.
use Rattle.std.proofs.Common.{◌≡◌, ◌⊎◌, List, ◌∷◌, reverse, subst, arith}
use Rattle.tx_base.specs.declared.steps.Accepted.{Accepted}
use Rattle.tx_base.specs.declared.steps.Refusal.TheVariants.{NoMemory}
use Rattle.tx_base.specs.declared.steps.Reply.{Reply}
use Rattle.tx_base.specs.declared.steps.Reply.TheVariants.{No}
use Rattle.tx_base.specs.declared.steps.Step.{Step}
use Rattle.tx_core.specs.Runs.{Continues}
use Rattle.tx_journal.proofs.Extended.{walks_view}
use Rattle.tx_journal.proofs.Walked.{lawful_to}
use Rattle.tx_journal.specs.Entries.{history_of}
use Rattle.tx_journal.specs.Sessions.{IsJournal, SessionState, made_of, start_of}
use Rattle.tx_journal.specs.Trials.{answer_there, shown_with}
use Rattle.tx_content.specs.Content.{view_of}
use Rattle.tx_content.specs.declared.content.Content.{Content}
use Rattle.tx_model.specs.Answer.{answer, IsAccepted}
use Rattle.tx_model.specs.Schedules.{history_with}
use Rattle.tx_model.specs.View.{view}

-- an accepted step is the newest of its history then, and a refused one leaves it
with_accepted : (h : List Accepted) (step : Step) (reply : Reply) → IsAccepted reply → history_with h step reply ≡ record { step = step; reply = reply } ∷ h
with_accepted h step reply accepted = grind arith

with_refused : (h : List Accepted) (step : Step) (reply : Reply) → (IsAccepted reply → ⊥) → history_with h step reply ≡ h
with_refused h step reply refused = grind arith

module _ (k : SessionState) (step : Step) (reply : Reply) (is : IsJournal k) (answered : (reply ≡ No NoMemory) ⊎ (answer (view_of k.machine) step ≡ reply)) where
  seen : view_of k.machine ≡ view (start_of k) (history_of (made_of k))
  seen = walks_view (start_of k) k.machine (reverse k.inverses) (history_of (made_of k)) is.walks

  pub answer_is : (reply ≡ No NoMemory → ⊥) → reply ≡ answer_there k step
  answer_is fine = grind (arith, seen)

  apart : IsAccepted reply → reply ≡ No NoMemory → ⊥
  apart accepted refused = subst IsAccepted refused accepted

  pub answer_made : IsAccepted reply → reply ≡ answer_there k step
  answer_made accepted = answer_is (apart accepted)

  pub shown_made : (new : Content) → IsAccepted reply → Continues k.machine (record { step = step; reply = reply }) new → view_of new ≡ shown_with k step
  shown_made new accepted along = grind (arith, answer_made, lawful_to, seen, with_accepted)

  pub shown_refused : (new : Content) → (IsAccepted reply → ⊥) → (reply ≡ No NoMemory → ⊥) → new ≡ k.machine → view_of new ≡ shown_with k step
  shown_refused new refused fine same = grind (arith, answer_is, seen, with_refused)
