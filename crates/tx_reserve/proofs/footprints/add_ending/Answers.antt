use Rattle.tx_reserve.proofs.Rows.{adds_both}
use Rattle.tx_reserve.proofs.footprints.add_ending.Goals as goal

pub returns : goal.returns
returns c = λ held goes. adds_both _ _ (adds_both _ _ (adds_both _ _ (c.add_open_and_pipes.ensures held) (c.add_children.ensures held)) c.add_parent.ensures) (c.add_last.ensures held goes)
