use Rattle.std.proofs.Common.{◌∙◌, rules}
use Rattle.std.proofs.lemmas.Int.{to_z-of_z}
use Rattle.std.specs.Int.{w64}
use Rattle.std.specs.Prelude.{FitsSigned}
use Rattle.tx_kernel.proofs.StepPlans.{answered_step}
use Rattle.tx_kernel.proofs.actor.Actor.plan_posted.Goals as goal

pub returns-clause-ok : goal.returns-clause-ok
returns-clause-ok c =
    let fits : FitsSigned w64 c.answer_of-ret.result = search rules in
    record {
      plans = λ rule objects does.
          answered_step c.laws.ensures c.args.self.now c.args.log.now c.push_post.new.log c.push_answer.new.log c.args.sending.now c.in_ok-answer.answer _ rule objects c.requires.actor c.requires.signal does
          c.in_ok-answer.ensures.ok (to_z-of_z w64 c.answer_of-ret.result fits ∙ c.answer_of-ret.ensures) c.in_ok-push_answer.ensures.ok;
    }
