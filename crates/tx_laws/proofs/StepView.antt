-- What an accepted step makes of the view, and what an event leaves alone.
use Rattle.std.proofs.Common.{◌≡◌, true, false, List, [], ◌∷◌, ◌++◌, refl, ap₂, subst}
use Rattle.tx_base.specs.declared.steps.Step.{Step}
use Rattle.tx_base.specs.declared.steps.Reply.{Reply}
use Rattle.tx_model.specs.ObjectFacts.{has_head, has_tail, has_left, has_right}
use Rattle.tx_model.specs.State.{State, Sending, Object, Proc, has_object}
use Rattle.tx_model.specs.StateLaws.{EqualAt, AgreeAt}
use Rattle.tx_model.specs.Events.{Event, process_of, effect, objects, after}
use Rattle.tx_model.specs.Membership.{Role}
use Rattle.tx_model.specs.Words.{processes_of}
use Rattle.tx_model.specs.View.{View, role_on, event_on, next}
use Rattle.tx_model.specs.Answer.{answer, IsAccepted}
use Rattle.tx_laws.specs.Sound.{IsSound}
use Rattle.tx_laws.specs.Fits.{Fits, Passes}
use Rattle.tx_laws.specs.TwoStates.{TwoStates, states_view, states_next}
use Rattle.tx_laws.proofs.Objects.{TargetsIn}
use Rattle.tx_laws.proofs.Elsewhere.{effect_fits, after_else}
use Rattle.tx_laws.proofs.Taken.{IsTaken, taken}
use Rattle.tx_laws.proofs.TwoStatesView.{states_next_view}

-- what a step that may be taken is on the view goes with its event
pub record IsFitting (V : View) (step : Step) : Type 0 where
  pub fits : Fits (role_on V step) (event_on V step) (process_of step) V
  pub passes : Passes (role_on V step) (event_on V step) V

pub fitting : (V : View) (step : Step) → IsSound V → IsAccepted (answer V step) → IsFitting V step
fitting V step sound a =
    let r : Reply = answer V step in
    let t : IsTaken V step r = taken V step r sound refl a in
    let z = subst (λ (x : Role × Event). Fits x.0 x.1 (process_of step) V × Passes x.0 x.1 V) (ap₂ (λ (u : Role) (v : Event). (u, v)) t.role_is t.event_is) (t.fits, t.passes) in
    record { fits = z.0; passes = z.1 }

pub states_step_view : (c : TwoStates) (step : Step) → IsSound (states_view c) → IsAccepted (answer (states_view c) step)
    → states_view (states_next (role_on (states_view c) step) (event_on (states_view c) step) (process_of step) c) ≡ next (states_view c) step
unfolding next
states_step_view c step sound a =
    let f : IsFitting (states_view c) step = fitting (states_view c) step sound a in
    states_next_view (role_on (states_view c) step) (event_on (states_view c) step) (process_of step) c sound f.passes f.fits

targets_in : (ms : List Sending) (os : List Object) → ((o : Object) → has_object o (processes_of ms) ≡ true → has_object o os ≡ true) → TargetsIn ms os
targets_in [] os h = tt
targets_in (m ∷ ms) os h = (h (Proc m.target) (has_head (Proc m.target) (processes_of ms)), targets_in ms os (λ o k. h o (has_tail o (Proc m.target) (processes_of ms) k)))

pub elsewhere : (ev : Event) (S : State) (o : Object) → has_object o (objects ev S ++ processes_of (effect ev S).sends) ≡ false → AgreeAt (after ev S) S o
elsewhere ev S o h =
    let os : List Object = objects ev S ++ processes_of (effect ev S).sends in
    after_else ev S os o
    (effect_fits ev S os (λ q k. has_left q (objects ev S) (processes_of (effect ev S).sends) k)
    (targets_in (effect ev S).sends os (λ q k. has_right q (objects ev S) (processes_of (effect ev S).sends) k))) h

-- an event leaves every part alone but those of its objects and of the targets of its sends
pub states_elsewhere : (ev : Event) (S : State) (o : Object) → has_object o (objects ev S ++ processes_of (effect ev S).sends) ≡ false → EqualAt (after ev S) S o
states_elsewhere ev S o h = (elsewhere ev S o h).equal
