use Rattle.std.proofs.Common.{Option, ap, sym, ◌∙◌}
use Rattle.tx_model.specs.Effects.{Inside}
use Rattle.tx_model.specs.Footprints.{is_for_later}
use Rattle.tx_reserve.specs.Footprints.{table_at}
use Rattle.tx_reserve.proofs.Rows.{told_none, told_now, told_later}
use Rattle.tx_reserve.proofs.footprints.add_notified.Goals as goal

pub returns-then-parent-eq1 : goal.returns-then-parent-eq1
returns-then-parent-eq1 c = told_none c.args.set.now (table_at c.args.actor.now c.args.marks.now) c.args.actor.now.pid.0 c.args.actor.now.proc.now.parent.0 c.if-parent-eq1.true

pub returns-then-is_for_later : goal.returns-then-is_for_later
returns-then-is_for_later c = told_later (table_at c.args.actor.now c.args.marks.now) c.args.actor.now.pid.0 c.args.actor.now.proc.now.parent.0 c.if-parent-eq1.false
    (sym (ap (λ (i : Option Inside). is_for_later i c.args.actor.now.proc.now.parent.0) c.requires) ∙ sym c.is_for_later.ensures ∙ c.if-is_for_later.true) c.add_posted.ensures

pub returns-else-is_for_later : goal.returns-else-is_for_later
returns-else-is_for_later c = told_now c.args.set.now (table_at c.args.actor.now c.args.marks.now) c.args.actor.now.pid.0 c.args.actor.now.proc.now.parent.0
    (sym (ap (λ (i : Option Inside). is_for_later i c.args.actor.now.proc.now.parent.0) c.requires) ∙ sym c.is_for_later.ensures ∙ c.if-is_for_later.false)
