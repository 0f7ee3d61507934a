-- The laws that the proofs of steps use.
use Rattle.tx_step.specs.Contents.{ContentsAreWhole}
use Rattle.tx_step.specs.Early.{RefusalIsEarly}
use Rattle.tx_laws.specs.Endings.{EndingsAreAnswered}
use Rattle.tx_laws.specs.Footprints.{ClearIsOfMembers, FootprintIsOfEvent, NoStarterIsClear}
use Rattle.tx_laws.specs.Laws.{AcceptedStepsFit, NextIsWellFormed}
use Rattle.tx_laws.specs.LawsOfTwoStates.{PresentIsNow}
use Rattle.tx_laws.specs.LawsOfTable.{NextViewIsWellFormed, ViewsListEnough}
use Rattle.tx_laws.specs.Shown.{ShowsFew}
use Rattle.tx_laws.specs.WellFormed.{IsWellFormed, HasGoodNumbers}
use Rattle.tx_model.specs.Events.{Event, after}
use Rattle.tx_model.specs.State.{State}
use Rattle.tx_txn.specs.Laws.{ContentFollowsStep, DoomIsPending}

pub record StepLaws : Type 0 where
  pub whole : ContentsAreWhole
  pub early : RefusalIsEarly
  pub fits : AcceptedStepsFit
  pub present : PresentIsNow
  pub follows : ContentFollowsStep
  pub formed : NextIsWellFormed
  pub view : NextViewIsWellFormed
  pub keeps : (event : Event) (state : State) → IsWellFormed state
      → HasGoodNumbers state.width event → IsWellFormed (after event state)
  pub answered : EndingsAreAnswered
  pub of_event : FootprintIsOfEvent
  pub clear : NoStarterIsClear
  pub members : ClearIsOfMembers
  pub doom : DoomIsPending
  pub listed : ViewsListEnough
  pub shown : ShowsFew
