-- The laws that the proofs of early refusals and ways use.
use Rattle.tx_laws.specs.Endings.{DeliveryIsTold, ExitIsTold, OtherCallIsTold}
use Rattle.tx_laws.specs.Footprints.{FootprintIsOfEvent}
use Rattle.tx_laws.specs.LawsOfEvents.{HoldsForItsOwn}
use Rattle.tx_laws.specs.LawsOfTwoStates.{PresentIsNow}
use Rattle.tx_reserve.specs.Laws.{FootprintIsWithin, WithinIsSmall}
use Rattle.tx_txn.specs.Laws.{DoomIsPending}

pub record JudgeLaws : Type 0 where
  pub present : PresentIsNow
  pub doom : DoomIsPending

pub record WayLaws : Type 0 where
  pub present : PresentIsNow
  pub of_event : FootprintIsOfEvent
  pub own : HoldsForItsOwn
  pub within : FootprintIsWithin
  pub small : WithinIsSmall
  pub other_call : OtherCallIsTold
  pub exit : ExitIsTold
  pub delivery : DeliveryIsTold
