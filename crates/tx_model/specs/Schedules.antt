-- What a schedule of steps is answered, and the history that it leaves. Own rules.
use Rattle.std.specs.Prelude.{List, [], ◌∷◌}
use Rattle.tx_base.specs.declared.steps.Accepted.{Accepted}
use Rattle.tx_base.specs.declared.steps.Reply.{Reply}
use Rattle.tx_base.specs.declared.steps.Reply.TheVariants.{No}
use Rattle.tx_base.specs.declared.steps.Step.{Step}
use Rattle.tx_model.specs.State.{State}
use Rattle.tx_model.specs.View.{view}
use Rattle.tx_model.specs.Answer.{answer}

-- if it was accepted
abbrev pub history_with : List Accepted → Step → Reply → List Accepted
history_with h step (No why) = h
history_with h step reply = record { step = step; reply = reply } ∷ h

module _ (S : State) where
  -- of a schedule that follows a history
  unfoldable pub history_of : List Accepted → List Step → List Accepted
  history_of h [] = h
  history_of h (step ∷ steps) = history_of (history_with h step (answer (view S h) step)) steps

  unfoldable pub answers_of : List Accepted → List Step → List Reply
  answers_of h [] = []
  answers_of h (step ∷ steps) =
      answer (view S h) step ∷ answers_of (history_with h step (answer (view S h) step)) steps
