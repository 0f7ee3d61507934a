use Rattle.std.proofs.Common.{[], ◌∷◌}
use Rattle.tx_model.specs.State.{Desc, Pipe}
use Rattle.tx_reserve.proofs.Rows.{adds_one, adds_both}
use Rattle.tx_reserve.proofs.footprints.add_pipe.Goals as goal

pub returns : goal.returns
returns c = adds_both (Pipe c.args.pipe.0 ∷ Desc c.args.read.0 ∷ []) (Desc c.args.write.0 ∷ [])
    (adds_both (Pipe c.args.pipe.0 ∷ []) (Desc c.args.read.0 ∷ []) (adds_one _ _ (Pipe c.args.pipe.0) c.insert.ensures) (adds_one _ _ (Desc c.args.read.0) c.insert-2.ensures))
    (adds_one _ _ (Desc c.args.write.0) c.insert-3.ensures)
