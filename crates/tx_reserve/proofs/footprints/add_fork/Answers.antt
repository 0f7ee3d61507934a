use Rattle.std.proofs.Common.{[], ◌∷◌}
use Rattle.tx_model.specs.Descriptors.{desc_objects, open_in}
use Rattle.tx_model.specs.State.{Proc}
use Rattle.tx_reserve.proofs.Rows.{adds_one, adds_both}
use Rattle.tx_reserve.proofs.footprints.add_fork.Goals as goal

pub returns : goal.returns
returns c = adds_both (Proc c.args.child.0 ∷ []) (desc_objects (open_in c.args.actor.now.proc.now.descriptors)) (adds_one _ _ (Proc c.args.child.0) c.insert.ensures) c.add_open.ensures
