use Rattle.std.proofs.Common.{[], ◌∷◌, sym, ◌∙◌}
use Rattle.tx_model.specs.State.{Proc}
use Rattle.tx_reserve.proofs.Rows.{adds_one, adds_if, adds_if_not}
use Rattle.tx_reserve.proofs.footprints.add_child.Goals as goal

pub returns-then-is_child : goal.returns-then-is_child
returns-then-is_child c = λ held. adds_if _ (Proc c.args.child.0 ∷ []) (sym (c.is_child.ensures held) ∙ c.if-is_child.true) (adds_one _ _ (Proc c.args.child.0) c.insert.ensures)

pub returns-else-is_child : goal.returns-else-is_child
returns-else-is_child c = λ held. adds_if_not c.args.set.now _ (Proc c.args.child.0 ∷ []) (sym (c.is_child.ensures held) ∙ c.if-is_child.false)
