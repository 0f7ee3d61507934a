use Rattle.std.proofs.Common.{◌≡◌, ℕ, List, pos, ap, refl, rules}
use Rattle.tx_base.specs.declared.steps.Reply.TheVariants.{Out}
use Rattle.tx_kernel.proofs.PartsOwned.{own_same, part_more, part_none, part_whole}
use Rattle.tx_kernel.specs.Actors.{effect_by, me_of}
use Rattle.tx_kernel.specs.Own.{answer_after}
use Rattle.tx_kernel.specs.declared.planned.Outcome.TheVariants as outcome
use Rattle.tx_model.specs.Effects.{with_answer}
use Rattle.tx_model.specs.Words.{own_effect}
use Rattle.tx_model.specs.Forms.{stands}
use Rattle.tx_model.specs.Memory.{address_of, bytes_at, bytes_from}
use Rattle.tx_proc.specs.Parts.{revised}
use Rattle.tx_proc.specs.declared.proc.Part.TheVariants.{Answer as SetAnswer}
use Rattle.tx_kernel.proofs.actor.Actor.plan_shown.Goals as goal

pub returns-clause-ok : goal.returns-clause-ok
returns-clause-ok c =
    let actor = c.args.self.now in
    let n : ℕ = c.args.count in
    let shown = outcome.Out (record { address = c.unwrap_or-address.result; count = n }) in
    let part = SetAnswer (answer_after (pos n) actor) in
    let same : bytes_from (me_of actor).memory c.unwrap_or-address.result n ≡ bytes_at (me_of actor).memory (address_of c.args.address) n = search rules in
    own_same actor c.args.log.now c.push_answer.new.log shown _ (effect_by actor (λ d. stands (with_answer (pos n) d.process) (Out (record { items = bytes_at d.process.memory (address_of c.args.address) n }))))
    (part_whole actor c.args.log.now c.push_answer.new.log shown (revised part)
    (part_more actor c.args.log.now c.args.log.now c.push_answer.new.log (λ q. q) part (part_none actor c.args.log.now) tt tt (search rules)) refl)
    (λ S. ap (λ (bytes : List ℕ). own_effect actor.pid.0 (record { process = with_answer (pos n) (me_of actor); reply = Out (record { items = bytes }) })) same)
