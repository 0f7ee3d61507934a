use Rattle.std.proofs.Common.{eq-eqb}
use Rattle.std.proofs.lemmas.Bool.{ne_eqb}
use Rattle.tx_reserve.proofs.Rows.{adds_unless, adds_nothing}
use Rattle.tx_reserve.proofs.footprints.add_parent.Goals as goal

pub returns-then-parent-eq1 : goal.returns-then-parent-eq1
returns-then-parent-eq1 c = adds_nothing c.args.set.now _ _ (eq-eqb c.args.actor.now.proc.now.parent.0 1 c.if-parent-eq1.true)

pub returns : goal.returns
returns c = adds_unless _ _ (ne_eqb c.args.actor.now.proc.now.parent.0 1 c.if-parent-eq1.false) c.add_target.ensures
