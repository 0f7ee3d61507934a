use Rattle.std.proofs.Common.{arith, w64}
use Rattle.std.proofs.lemmas.Int.{to_z_pos}
use Rattle.tx_kernel.proofs.actor.Actor.plan_natural.Goals as goal

pub returns-clause-ok : goal.returns-clause-ok
returns-clause-ok c = simp (to_z_pos w64 c.args.number (omega arith)) at c.plan_answer.ensures.ok
