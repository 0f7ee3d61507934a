-- Why the rule of an event refuses it.
use Rattle.std.specs.Prelude.{◌≡◌, ◌≢◌, ◌⊎◌, Option, Some, None, false, length}
use Rattle.tx_base.specs.declared.steps.Refusal.{Refusal}
use Rattle.tx_base.specs.declared.steps.Refusal.TheVariants.{NoMemory}
use Rattle.tx_base.specs.declared.steps.Reply.TheVariants.{No}
use Rattle.tx_kernel.specs.Acts.{choice_of}
use Rattle.tx_content.specs.Made.{RefusesStep}
use Rattle.tx_content.specs.declared.content.Content.{Content}
use Rattle.tx_model.specs.Answer.{IsAccepted, is_bad_choice}
use Rattle.tx_model.specs.Events.{Event, reply_of}
use Rattle.tx_model.specs.State.{State}

-- the rule refuses the event for this reason, or accepts it
abbrev pub TellsRule : Event → State → Option Refusal → Type 0
TellsRule ev S (Some why) = (reply_of ev S ≡ No why) × (why ≢ NoMemory)
TellsRule ev S None = IsAccepted (reply_of ev S)

-- why the event was not made: want of memory if its rule accepts it, else the rule's reason
abbrev pub IsWhyNot : Event → State → Refusal → Type 0
IsWhyNot ev S why =
    (why ≡ NoMemory) × IsAccepted (reply_of ev S) ⊎ (reply_of ev S ≡ No why) × (why ≢ NoMemory)

-- the plan of the event was refused for this reason, though it chooses good numbers
pub record WasRefused (k : Content) (ev : Event) (why : Refusal) : Type 0 where
  pub good : is_bad_choice (length k.parts.procs) (choice_of ev) ≡ false
  pub refuses : RefusesStep k ev why
