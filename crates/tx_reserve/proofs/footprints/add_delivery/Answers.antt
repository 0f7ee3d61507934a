use Rattle.std.proofs.Common.{Option, ap, sym, ◌∙◌}
use Rattle.tx_model.specs.Deliveries.{delivered_value, ends_by}
use Rattle.tx_kernel.specs.Actors.{me_of}
use Rattle.tx_model.specs.Effects.{Inside}
use Rattle.tx_reserve.proofs.Rows.{adds_if, adds_if_not}
use Rattle.tx_reserve.proofs.footprints.add_delivery.Goals as goal

pub returns-then-is_ended_by : goal.returns-then-is_ended_by
returns-then-is_ended_by c = λ held goes. adds_if _ _ (ap (λ (i : Option Inside). ends_by i c.args.signo.0 (me_of c.args.actor.now) (delivered_value c.args.signo.0 (me_of c.args.actor.now))) (sym c.requires.inside) ∙ sym c.is_ended_by.ensures ∙ c.if-is_ended_by.true) (c.add_ending.ensures held (goes (sym c.is_ended_by.ensures ∙ c.if-is_ended_by.true)))

pub returns-else-is_ended_by : goal.returns-else-is_ended_by
returns-else-is_ended_by c = λ held goes. adds_if_not c.args.set.now _ _ (ap (λ (i : Option Inside). ends_by i c.args.signo.0 (me_of c.args.actor.now) (delivered_value c.args.signo.0 (me_of c.args.actor.now))) (sym c.requires.inside) ∙ sym c.is_ended_by.ensures ∙ c.if-is_ended_by.false)
