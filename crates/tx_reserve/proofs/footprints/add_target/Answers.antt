use Rattle.std.proofs.Common.{Option, ap, sym, ◌∙◌}
use Rattle.tx_model.specs.Effects.{Inside}
use Rattle.tx_model.specs.Footprints.{is_for_later}
use Rattle.tx_reserve.proofs.Rows.{adds_unless, adds_nothing}
use Rattle.tx_reserve.proofs.footprints.add_target.Goals as goal

pub returns-then-is_for_later : goal.returns-then-is_for_later
returns-then-is_for_later c = adds_nothing c.args.set.now _ _ (sym (ap (λ (i : Option Inside). is_for_later i c.args.target.0) c.requires) ∙ sym c.is_for_later.ensures ∙ c.if-is_for_later.true)

pub returns : goal.returns
returns c = adds_unless _ _ (sym (ap (λ (i : Option Inside). is_for_later i c.args.target.0) c.requires) ∙ sym c.is_for_later.ensures ∙ c.if-is_for_later.false) c.add_posted.ensures
