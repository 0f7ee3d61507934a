-- The laws that the proofs of what a step may change use.
use Rattle.tx_laws.specs.Footprints.{ClearIsOfMembers, FootprintIsOfEvent}
use Rattle.tx_laws.specs.Laws.{AcceptedStepsFit, LawfulViewIsNext, LawfulViewIsSound}
use Rattle.tx_laws.specs.LawsOfEvents.{HoldsForItsOwn, OtherObjectsStay}

-- the view is that of the history, and sound; an accepted step fits its role; an event leaves what
-- it does not name, and holds for its own transaction; and the footprint of a step is what its
-- event names, of which others have reserved nothing
pub record ReachLaws : Type 0 where
  pub next : LawfulViewIsNext
  pub sound : LawfulViewIsSound
  pub fits : AcceptedStepsFit
  pub stay : OtherObjectsStay
  pub holds : HoldsForItsOwn
  pub named : FootprintIsOfEvent
  pub clear : ClearIsOfMembers
