-- The two answers to the signals of a step: now, and after an abort. Own rules.
use Rattle.std.specs.Prelude.{◌≡◌, ℕ, not, List, [], ◌∷◌, ℤ, Option, Some, None, is_some, if◌then◌else◌, ◌==◌}
use Rattle.std.specs.Ordering.{int_eq}
use Rattle.tx_base.specs.declared.steps.Step.{Step}
use Rattle.tx_model.specs.Answer.{is_running}
use Rattle.tx_model.specs.Effects.{send_answers}
use Rattle.tx_model.specs.Events.{Event, effect, process_of}
use Rattle.tx_model.specs.Footprints.{footprint}
use Rattle.tx_model.specs.History.{just}
use Rattle.tx_model.specs.Membership.{is_live}
use Rattle.tx_model.specs.State.{Proc, Sending, has_object}
use Rattle.tx_model.specs.View.{View, event_on, has_two_answers, present}
use Rattle.tx_step.specs.declared.differing.TwoAnswers.{TwoAnswers}

-- a send with its answer now, and that after an abort
abbrev pub answered_twice : Sending → ℤ → ℤ → TwoAnswers
answered_twice m x y = record { signo = record { 0 = m.signo }; present = x; after_abort = y }

-- the first post to target t that the two lists answer differently
unfoldable pub first_difference : ℕ → List Sending → List ℤ → List ℤ → Option TwoAnswers
first_difference t [] xs ys = None
first_difference t (m ∷ ms) [] ys = None
first_difference t (m ∷ ms) (x ∷ xs) [] = None
first_difference t (m ∷ ms) (x ∷ xs) (y ∷ ys) =
    if m.target == t
    then (if int_eq x y then first_difference t ms xs ys else Some (answered_twice m x y))
    else first_difference t ms xs ys

module _ (V : View) where
  -- the first post of the event to s that is answered differently without the transaction of s
  abbrev pub difference_at : Event → ℕ → Option TwoAnswers
  difference_at ev s =
      let f = effect ev (present V) in
      first_difference s f.sends (send_answers f (present V)) (send_answers f (V.without (just s)))

  -- the first signal of a step that has two answers, to the starter s of a live transaction: none
  -- where the step names s, and none of a step whose process does not run
  abbrev pub two_answers : Step → ℕ → Option TwoAnswers
  two_answers step s =
      if not (is_live V.table s) then None else
      if has_object (Proc s) (footprint V.table step (present V)) then None else
      if not (is_running ((present V).procs (process_of step)))
      then None
      else difference_at (event_on V step) s

-- an event has such a signal exactly where the definitions say that one of its posts has two
-- answers
abbrev pub DifferencesAreFound : Type 0
DifferencesAreFound =
    (V : View) (event : Event) (s : ℕ)
    → is_some (difference_at V event s) ≡ has_two_answers V event s
