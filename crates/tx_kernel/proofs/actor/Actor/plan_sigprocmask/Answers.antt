use Rattle.std.proofs.Common.{ℕ, pos, ap, refl}
use Rattle.tx_kernel.proofs.PartsOwned.{own_same, part_answered, part_more, part_none}
use Rattle.tx_kernel.specs.Actors.{effect_by, me_of}
use Rattle.tx_kernel.specs.declared.planned.Outcome.TheVariants.{Done}
use Rattle.tx_model.specs.Book.{sigprocmask}
use Rattle.tx_model.specs.Words.{answer_effect}
use Rattle.tx_proc.specs.Parts.{revised}
use Rattle.tx_proc.specs.declared.proc.Part.TheVariants.{Mask as SetMask}
use Rattle.tx_kernel.proofs.actor.Actor.plan_sigprocmask.Goals as goal

pub returns-clause-ok : goal.returns-clause-ok
returns-clause-ok c =
    let actor = c.args.self.now in
    own_same actor c.args.log.now c.push_answer.new.log (Done (pos 0)) _ (effect_by actor (sigprocmask c.args.how c.args.set))
    (part_answered actor c.args.log.now c.push.new.log c.push_answer.new.log (revised (SetMask c.masked.result)) (pos 0)
    (part_more actor c.args.log.now c.args.log.now c.push.new.log (λ q. q) (SetMask c.masked.result) (part_none actor c.args.log.now) tt tt c.in_ok-push.ensures.ok)
    refl c.in_ok-push_answer.ensures.ok)
    (λ S. ap (λ (set : ℕ). answer_effect actor.pid.0 (pos 0) (record (me_of actor) { mask = set })) c.masked.ensures)
