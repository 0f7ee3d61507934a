-- The steps of a history, made again from the start.
use Rattle.std.proofs.Common.{◌≡◌, ℕ, List, [], ◌∷◌, ◌++◌, drop, map, reverse, take, refl, sym, ap, subst, ◌∙◌}
use Rattle.std.proofs.lemmas.List.{map-append, reverse-append, reverse-reverse, take-append-drop}
use Rattle.tx_base.specs.declared.steps.Accepted.{Accepted}
use Rattle.tx_base.specs.declared.steps.Reply.{Reply}
use Rattle.tx_base.specs.declared.steps.Reply.TheVariants.{Done, Ended, Committed, Aborted, Out, No}
use Rattle.tx_base.specs.declared.steps.Step.{Step}
use Rattle.tx_model.specs.Answer.{IsAccepted, Lawful, answer}
use Rattle.tx_model.specs.Schedules.{history_of, history_with}
use Rattle.tx_model.specs.State.{State}
use Rattle.tx_model.specs.View.{view}
use Rattle.tx_script.specs.Debug.{first_steps}

abbrev step_of : Accepted → Step
step_of e = e.step

with_accepted : (h : List Accepted) (step : Step) (reply : Reply) → IsAccepted reply → history_with h step reply ≡ record { step = step; reply = reply } ∷ h
with_accepted h step (No why) accepted = absurd accepted
with_accepted h step (Done ret) accepted = refl
with_accepted h step Ended accepted = refl
with_accepted h step (Committed undelivered) accepted = refl
with_accepted h step (Aborted status) accepted = refl
with_accepted h step (Out bytes) accepted = refl

module _ (start : State) where
  -- one step more at the end
  one_more : (h : List Accepted) (made : List Step) (step : Step) → history_of start h (made ++ step ∷ []) ≡ history_with (history_of start h made) step (answer (view start (history_of start h made)) step)
  unfolding history_of
  one_more h [] step = refl
  one_more h (first ∷ made) step = one_more (history_with h first (answer (view start h) first)) made step

  made_again : (h : List Accepted) → Lawful start h → history_of start [] (map step_of (reverse h)) ≡ h
  unfolding history_of Lawful
  made_again [] lawful = refl
  made_again (e ∷ h) lawful =
      let steps : map step_of (reverse (e ∷ h)) ≡ map step_of (reverse h) ++ e.step ∷ [] = ap (map step_of) (reverse-append (e ∷ []) h) ∙ map-append step_of (reverse h) (e ∷ []) in
      ap (history_of start []) steps
      ∙ one_more [] (map step_of (reverse h)) e.step
      ∙ ap (λ (k : List Accepted). history_with k e.step (answer (view start k) e.step)) (made_again h lawful.0)
      ∙ ap (history_with h e.step) lawful.1
      ∙ with_accepted h e.step e.reply lawful.2

  lawful_before : (later h : List Accepted) → Lawful start (later ++ h) → Lawful start h
  unfolding Lawful
  lawful_before [] h lawful = lawful
  lawful_before (e ∷ later) h lawful = lawful_before later h lawful.0

  -- the steps up to a position lead to the history there
  pub replayed : (at : ℕ) (h : List Accepted) → Lawful start h → history_of start [] (map step_of (take at (reverse h))) ≡ first_steps at h
  replayed at h lawful =
      let parts : h ≡ reverse (drop at (reverse h)) ++ first_steps at h =
      sym (reverse-reverse h) ∙ ap reverse (sym (take-append-drop at (reverse h))) ∙ reverse-append (take at (reverse h)) (drop at (reverse h)) in
      let earlier : Lawful start (first_steps at h) = lawful_before (reverse (drop at (reverse h))) (first_steps at h) (subst (Lawful start) parts lawful) in
      ap (λ (es : List Accepted). history_of start [] (map step_of es)) (sym (reverse-reverse (take at (reverse h)))) ∙ made_again (first_steps at h) earlier
