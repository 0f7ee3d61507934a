use Rattle.std.proofs.Common.{rules}
use Rattle.std.proofs.lemmas.Int.{to_z-of_z}
use Rattle.std.specs.Int.{w64}
use Rattle.std.specs.Prelude.{FitsSigned}
use Rattle.tx_kernel.proofs.Made.{plans_note}
use Rattle.tx_kernel.specs.Own.{PlansOwn}
use Rattle.tx_kernel.specs.Actors.{effect_by}
use Rattle.tx_model.specs.Forms.{answers}
use Rattle.tx_kernel.proofs.actor.Actor.plan_note.Goals as goal

pub returns-clause-ok : goal.returns-clause-ok
returns-clause-ok c =
    let fits : FitsSigned w64 c.args.ret = search rules in
    let own : PlansOwn c.args.self.now c.args.log.now c.plan_answer.new.log c.in_ok-plan_answer.field-0 (effect_by c.args.self.now (λ d. answers c.args.ret)) = simp (to_z-of_z w64 c.args.ret fits) at c.in_ok-plan_answer.ensures.ok in
    plans_note c.laws.ensures c.args.self.now c.args.log.now c.plan_answer.new.log c.in_ok-plan_answer.field-0 c.args.ret c.sized.ensures c.requires own
