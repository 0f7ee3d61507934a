use Rattle.std.proofs.Common.{w64}
use Rattle.std.proofs.lemmas.Int.{to_z-of_z}
use Rattle.tx_kernel.proofs.OwnPlans.{own_plans}
use Rattle.tx_kernel.specs.Actors.{effect_by}
use Rattle.tx_model.specs.Forms.{answers}
use Rattle.tx_kernel.proofs.actor.Actor.plan_done.Goals as goal

pub returns-clause-ok : goal.returns-clause-ok
returns-clause-ok c objects =
    own_plans c.laws.ensures c.args.self.now c.args.log.now c.plan_answer.new.log c.in_ok-plan_answer.field-0 (effect_by c.args.self.now (λ d. answers c.args.ret)) objects c.sized.ensures c.requires
    (simp (to_z-of_z w64 c.args.ret c.ranges.ret) at c.in_ok-plan_answer.ensures.ok)
