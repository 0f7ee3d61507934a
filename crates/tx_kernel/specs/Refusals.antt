-- Why a step is refused, and when it is made.
use Rattle.std.specs.Prelude.{◌≡◌, ℕ, ℤ, Bool, true, false, List, Option, Some, None, if◌then◌else◌}
use Rattle.tx_base.specs.declared.steps.Refusal.{Refusal}
use Rattle.tx_base.specs.declared.steps.Refusal.TheVariants.{BadNumber, NumberTaken, Wait}
use Rattle.tx_change.specs.States.{state_of}
use Rattle.tx_kernel.specs.Actors.{CountsHeld}
use Rattle.tx_kernel.specs.declared.actor.Actor.{Actor}
use Rattle.tx_model.specs.Answer.{Choice, IsAccepted, is_bad_choice, is_choice_in_use}
use Rattle.tx_model.specs.Words.{is_full}
use Rattle.tx_model.specs.Effects.{Effect, concluding_reply, idle}
use Rattle.tx_model.specs.Signals.{Caught, Disposition, Fatal, Ignored}
use Rattle.tx_model.specs.State.{Process, Sending, State}

-- the reply is an accepted one, whatever the posts answer
abbrev pub IsMade : Effect → Type 0
IsMade f = (rs : List ℤ) → IsAccepted (concluding_reply f.conclusion f.sends rs)

-- why the numbers that a call chooses are refused: the first reason
abbrev pub number_refusal : ℕ → State → Choice → Option Refusal
number_refusal width S choice =
    if is_bad_choice width choice
    then Some BadNumber
    else (if is_choice_in_use S choice then Some NumberTaken else None)

-- whether the step waits by its rule: if not, the step is made
pub record TellsWait (actor : Actor) (waits : Bool) (rule : State → Effect) : Type 0 where
  pub refused : waits ≡ true → (held : ℕ → List Sending) → CountsHeld actor.inside held
      → rule (state_of held actor.parts.now) ≡ idle Wait
  pub made : waits ≡ false → (held : ℕ → List Sending) → CountsHeld actor.inside held
      → IsMade (rule (state_of held actor.parts.now))

-- whether a signal would be caught while four caught ones are unfinished
abbrev pub lacks_frame : Disposition → Process → Bool
lacks_frame Ignored me = false
lacks_frame Fatal me = false
lacks_frame (Caught point mask) me = is_full me
