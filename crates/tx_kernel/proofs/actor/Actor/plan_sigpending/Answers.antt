use Rattle.std.proofs.Common.{◌≡◌, ◌<◌, ◌^◌, ℕ, ℤ, pos, ◌∙◌, ap, sym, subst, bit_and, arith, rules}
use Rattle.std.proofs.lemmas.Int.{to_z_pos}
use Rattle.std.proofs.lemmas.Nat.{and_le_r}
use Rattle.std.specs.Int.{w64}
use Rattle.tx_kernel.proofs.PartsOwned.{own_same}
use Rattle.tx_kernel.proofs.Whole.{masked_few}
use Rattle.tx_kernel.specs.Actors.{effect_by, me_of}
use Rattle.tx_model.specs.Book.{sigpending}
use Rattle.tx_model.specs.Words.{answer_effect}
use Rattle.tx_model.specs.Signals.{pending_signals}
use Rattle.tx_kernel.proofs.actor.Actor.plan_sigpending.Goals as goal

pub returns-clause-ok : goal.returns-clause-ok
returns-clause-ok c =
    let mask : ℕ = c.args.self.now.proc.now.mask.0 in
    let number : c.bits.result ≡ bit_and (pending_signals (me_of c.args.self.now)) mask
    = c.bits.ensures tt ∙ c.intersection-blocked.ensures tt ∙ ap (λ (n : ℕ). bit_and n mask) (c.signals.ensures (me_of c.args.self.now)) in
    let below : c.bits.result < 2 ^ 63 = subst (λ (n : ℕ). n < 2 ^ 63) (sym number) (omega (arith, and_le_r (pending_signals (me_of c.args.self.now)) mask, masked_few c.args.self.now c.requires)) in
    own_same c.args.self.now c.args.log.now c.plan_answer.new.log c.in_ok-outcome.outcome _ (effect_by c.args.self.now sigpending) c.in_ok-outcome.ensures.ok
    (λ S. ap (λ (r : ℤ). answer_effect c.args.self.now.pid.0 r (me_of c.args.self.now)) (to_z_pos w64 c.bits.result below ∙ ap pos number))

pub overflow_cast-bits : goal.overflow_cast-bits
overflow_cast-bits c =
    let few : c.bits.result < 2 ^ 63
    = subst (λ (n : ℕ). n < 2 ^ 63) (sym (c.bits.ensures tt ∙ c.intersection-blocked.ensures tt))
    (omega (arith, and_le_r c.signals.result.0 c.args.self.now.proc.now.mask.0, masked_few c.args.self.now c.requires)) in
    search rules
