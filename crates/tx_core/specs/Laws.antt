-- The laws that the proofs of the machine use.
use Rattle.tx_step.specs.Contents.{BootedIsContent}
use Rattle.tx_laws.specs.Laws.{LawfulViewIsNext}
use Rattle.tx_laws.specs.LawsOfTwoStates.{PresentIsNow}

-- its view is that of its history, its parts have that view, and it boots as steps leave it
pub record MachineLaws : Type 0 where
  pub history : LawfulViewIsNext
  pub present : PresentIsNow
  pub content : BootedIsContent
