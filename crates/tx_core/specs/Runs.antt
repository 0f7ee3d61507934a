-- What a run of a schedule leaves.
use Rattle.std.specs.Prelude.{◌≡◌, ℕ, List, [], ◌∷◌, Option, None, Some, reverse, take}
use Rattle.tx_base.specs.declared.steps.Accepted.{Accepted}
use Rattle.tx_base.specs.declared.names.Pid.{Pid}
use Rattle.tx_base.specs.declared.steps.Reply.TheVariants.{Aborted}
use Rattle.tx_base.specs.declared.steps.Step.{Step}
use Rattle.tx_base.specs.declared.steps.Step.TheVariants.{KernelAbort}
use Rattle.tx_content.specs.Content.{view_of}
use Rattle.tx_content.specs.declared.content.Content.{Content}
use Rattle.tx_model.specs.Answer.{Lawful}
use Rattle.tx_model.specs.Schedules.{history_of}
use Rattle.tx_model.specs.State.{State}
use Rattle.tx_model.specs.View.{kernel_status, view}

-- the machine has the view of a lawful history from a start state
pub record IsAfter (start : State) (history : List Accepted) (machine : Content) : Type 0 where
  pub lawful : Lawful start history
  pub view : view_of machine ≡ view start history

-- the steps of a schedule that were made: all, or those before the one where the run stopped
abbrev pub steps_made : Option ℕ → List Step → List Step
steps_made None steps = steps
steps_made (Some stopped) steps = take stopped steps

-- the entries, the oldest first, are the history of the steps from a start state; it is lawful, and
-- the machine has its view
pub record RunsFrom (start : State) (steps : List Step) (machine : Content)
    (entries : List Accepted) : Type 0 where
  pub history : reverse entries ≡ history_of start [] steps
  pub lawful : Lawful start (reverse entries)
  pub view : view_of machine ≡ view start (reverse entries)

-- a lawful history with the view of the one content is lawful with this step added, and has the
-- view of the other then
abbrev pub Continues : Content → Accepted → Content → Type 0
Continues before step after =
    (start : State) (earlier : List Accepted) → Lawful start earlier
    → view_of before ≡ view start earlier →
    Lawful start (step ∷ earlier) × (view_of after ≡ view start (step ∷ earlier))

-- the kernel's abort of a starter's transaction, with the status that it has then
abbrev pub kernel_abort_on : Content → Pid → Accepted
kernel_abort_on k starter =
    record { step = KernelAbort starter; reply = Aborted (kernel_status (view_of k) starter.0) }
