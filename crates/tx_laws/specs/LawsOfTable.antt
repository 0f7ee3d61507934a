-- The laws of the live transactions, one statement a name. Own rules.
use Rattle.std.specs.Prelude.{◌≡◌, ◌≤◌, List, [], length}
use Rattle.tx_base.specs.declared.limits.TheConstants.{UNDELIVERED}
use Rattle.tx_base.specs.declared.names.Missed.{Missed}
use Rattle.tx_base.specs.declared.steps.Reply.TheVariants.{Committed}
use Rattle.tx_base.specs.declared.steps.Step.{Step}
use Rattle.tx_model.specs.State.{State}
use Rattle.tx_model.specs.View.{View, view, present, next}
use Rattle.tx_model.specs.Answer.{answer, IsAccepted}
use Rattle.tx_laws.specs.Sound.{IsSound}
use Rattle.tx_laws.specs.WellFormed.{IsWellFormed}
use Rattle.tx_laws.specs.WellFormedTable.{HoldsNothing, IsWellFormedView}

-- the view of the empty history is well formed
abbrev pub EmptyViewIsWellFormed : Type 0
EmptyViewIsWellFormed = (start : State) → HoldsNothing start → IsWellFormedView (view start [])

-- the next view of a well-formed view by an accepted step is well formed
abbrev pub NextViewIsWellFormed : Type 0
NextViewIsWellFormed =
    (view : View) (step : Step) → IsSound view
    → IsWellFormed (present view) → IsWellFormedView view →
    IsAccepted (answer view step) → IsWellFormedView (next view step)

-- what a step on a well-formed view lists as it commits fits its reply
abbrev pub ViewsListEnough : Type 0
ViewsListEnough =
    (view : View) (step : Step) (items : List Missed) → IsSound view → IsWellFormed (present view)
    → IsWellFormedView view →
    answer view step ≡ Committed (record { items = items }) → length items ≤ UNDELIVERED
