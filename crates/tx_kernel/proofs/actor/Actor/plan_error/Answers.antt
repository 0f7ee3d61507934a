use Rattle.std.proofs.Common.{ℤ, w64, ap, sym, ◌∙◌}
use Rattle.std.proofs.lemmas.Int.{to_z-of_z}
use Rattle.tx_kernel.proofs.PartsOwned.{owned, owned_page}
use Rattle.tx_kernel.specs.Actors.{effect_by, me_of}
use Rattle.tx_model.specs.Words.{answer_effect}
use Rattle.tx_model.specs.Forms.{fails}
use Rattle.tx_kernel.proofs.actor.Actor.plan_error.Goals as goal

pub returns-clause-ok : goal.returns-clause-ok
returns-clause-ok c =
    let actor = c.args.self.now in
    owned c.plan_answer.result actor c.args.log.now c.plan_answer.new.log _ (effect_by actor (λ d. fails c.args.errno))
    (λ S. ap (λ (r : ℤ). answer_effect actor.pid.0 r (me_of actor)) (sym (to_z-of_z w64 c.answer.result (record { sfits = c.answer.type_inv }) ∙ c.answer.ensures))) c.plan_answer.ensures.ok

pub returns-clause-page : goal.returns-clause-page
returns-clause-page c page same =
    owned_page c.plan_answer.result c.args.self.now c.args.log.now c.plan_answer.new.log (λ d. fails c.args.errno) page same (returns-clause-ok c)
