use Rattle.std.proofs.Common.{not, ap, eq-eqb}
use Rattle.std.proofs.lemmas.Bool.{ne_eqb}
use Rattle.tx_reserve.proofs.Rows.{adds_unless, adds_nothing}
use Rattle.tx_reserve.proofs.footprints.add_exit.Goals as goal

pub returns-then-actor-eq1 : goal.returns-then-actor-eq1
returns-then-actor-eq1 c = λ held goes. adds_nothing c.args.set.now _ _ (eq-eqb c.args.actor.now.pid.0 1 c.if-actor-eq1.true)

pub returns : goal.returns
returns c = λ held goes.
    let other = ne_eqb c.args.actor.now.pid.0 1 c.if-actor-eq1.false in
    adds_unless _ _ other (c.add_ending.ensures held (goes (ap not other)))
