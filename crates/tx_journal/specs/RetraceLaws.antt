-- The laws that the proofs of a history made once more use.
use Rattle.tx_step.specs.Contents.{BootedIsContent}
use Rattle.tx_step.specs.Ways.{CallIsPosted, DeliveryIsPosted}
use Rattle.tx_laws.specs.Laws.{LawfulViewIsNext}
use Rattle.tx_laws.specs.LawsOfTwoStates.{PresentIsNow}

-- the view is that of the history; the parts have that view; the kernel begins as steps leave it;
-- and what is posted with a step is known
pub record RetraceLaws : Type 0 where
  pub history : LawfulViewIsNext
  pub present : PresentIsNow
  pub content : BootedIsContent
  pub call : CallIsPosted
  pub delivery : DeliveryIsPosted
