use Rattle.std.proofs.Common.{ℤ, arith, ap, sym, w64, ◌∙◌}
use Rattle.std.proofs.lemmas.Int.{to_z_pos}
use Rattle.tx_kernel.proofs.PartsOwned.{own_same, part_answered, part_more, part_none, plain_part}
use Rattle.tx_kernel.specs.Actors.{effect_by, me_of}
use Rattle.tx_model.specs.Forms.{effect_of}
use Rattle.tx_model.specs.Words.{answer_effect}
use Rattle.tx_proc.specs.Parts.{revised}
use Rattle.tx_kernel.proofs.actor.Actor.plan_part.Goals as goal

pub returns-clause-page : goal.returns-clause-page
returns-clause-page c page same =
    let actor = c.args.self.now in
    let plain = plain_part actor.pid c.args.part (me_of actor) c.requires in
    own_same actor c.args.log.now c.push_answer.new.log _ _ (effect_by actor page)
    (part_answered actor c.args.log.now c.push.new.log c.push_answer.new.log (revised c.args.part) _
    (part_more actor c.args.log.now c.args.log.now c.push.new.log (λ me. me) c.args.part (part_none actor c.args.log.now) plain.0 plain.1 c.in_ok-push.ensures.ok)
    plain.2 c.in_ok-push_answer.ensures.ok)
    (λ S. ap (λ (r : ℤ). answer_effect actor.pid.0 r (revised c.args.part (me_of actor))) (to_z_pos w64 c.args.answer (omega arith))
    ∙ sym (ap (effect_of actor.pid.0 (me_of actor)) (same S)))
