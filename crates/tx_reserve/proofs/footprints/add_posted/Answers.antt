use Rattle.std.proofs.Common.{[], ◌∷◌, sym, ◌∙◌}
use Rattle.tx_model.specs.State.{Proc}
use Rattle.tx_reserve.proofs.Rows.{adds_one, adds_unless, adds_nothing}
use Rattle.tx_reserve.proofs.footprints.add_posted.Goals as goal

pub returns-then-is_other_starter : goal.returns-then-is_other_starter
returns-then-is_other_starter c = adds_nothing c.args.set.now _ (Proc c.args.target.0 ∷ []) (sym c.is_other_starter.ensures ∙ c.if-is_other_starter.true)

pub returns : goal.returns
returns c = adds_unless _ (Proc c.args.target.0 ∷ []) (sym c.is_other_starter.ensures ∙ c.if-is_other_starter.false) (adds_one _ _ (Proc c.args.target.0) c.insert.ensures)
