-- From one view to the next: what each accepted step keeps.
use Rattle.std.proofs.Common.{◌≡◌, ℕ, Bool, true, false, List, [], ◌∷◌, refl, sym, subst}
use Rattle.tx_base.specs.declared.steps.Accepted.{Accepted}
use Rattle.tx_base.specs.declared.steps.Reply.{Reply}
use Rattle.tx_base.specs.declared.steps.Reply.TheVariants.{Done, Ended, Committed, Aborted, Out, No}
use Rattle.tx_base.specs.declared.steps.Step.{Step}
use Rattle.tx_model.specs.State.{State}
use Rattle.tx_model.specs.Events.{Event}
use Rattle.tx_model.specs.History.{Starters, left_out_before, is_left_in}
use Rattle.tx_model.specs.Schedules.{history_with, history_of}
use Rattle.tx_model.specs.View.{View, view, role_on, event_on, next}
use Rattle.tx_model.specs.Words.{after_if}
use Rattle.tx_model.specs.Answer.{answer, IsAccepted, Lawful}
use Rattle.tx_laws.specs.Sound.{IsSound}
use Rattle.tx_laws.specs.WellFormed.{IsWellFormed, HasGoodNumbers}
use Rattle.tx_laws.proofs.Erased.{next_sound}
use Rattle.tx_laws.proofs.GoodNumbers.{event_numbers}
use Rattle.tx_laws.proofs.FormHistory.{after_form}
use Rattle.tx_laws.proofs.Taken.{taken}

-- an accepted step keeps the view sound
pub step_sound : (V : View) (step : Step) → IsSound V → IsAccepted (answer V step) → IsSound (next V step)
step_sound V step sound a = next_sound V step (answer V step) sound (taken V step (answer V step) sound refl a)

form_if : (b : Bool) (ev : Event) (S : State) → IsWellFormed S → HasGoodNumbers S.width ev → IsWellFormed (after_if b ev S)
form_if true ev S form g = after_form ev S form g
form_if false ev S form g = form

-- an accepted step keeps the states well formed
pub step_form : (V : View) (step : Step) → IsSound V → IsAccepted (answer V step) → ((X : Starters) → IsWellFormed (V.without X)) → (X : Starters) → IsWellFormed ((next V step).without X)
unfolding next
step_form V step sound a form X =
    let Y : Starters = left_out_before (role_on V step) X in
    form_if (is_left_in (role_on V step) X) (event_on V step) (V.without Y) (form Y)
    (subst (λ (n : ℕ). HasGoodNumbers n (event_on V step)) (sym (sound.width Y)) (event_numbers V step a))

recorded_lawful : (S : State) (h : List Accepted) (step : Step) (r : Reply) → Lawful S h → answer (view S h) step ≡ r → Lawful S (history_with h step r)
unfolding Lawful
recorded_lawful S h step (No why) l e = l
recorded_lawful S h step (Done r) l e = (l, e, tt)
recorded_lawful S h step Ended l e = (l, e, tt)
recorded_lawful S h step (Committed undelivered) l e = (l, e, tt)
recorded_lawful S h step (Aborted status) l e = (l, e, tt)
recorded_lawful S h step (Out bytes) l e = (l, e, tt)

-- what a schedule leaves after a lawful history is lawful
pub schedule_lawful : (S : State) (h : List Accepted) (steps : List Step) → Lawful S h → Lawful S (history_of S h steps)
unfolding history_of
schedule_lawful S h [] l = l
schedule_lawful S h (step ∷ steps) l =
    let r : Reply = answer (view S h) step in
    schedule_lawful S (history_with h step r) steps (recorded_lawful S h step r l refl)
