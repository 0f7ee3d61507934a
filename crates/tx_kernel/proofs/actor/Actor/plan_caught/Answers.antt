use Rattle.std.proofs.Common.{◌≡◌, ◌∙◌, ℕ, bit_or, ap, rules}
use Rattle.std.proofs.lemmas.Int.{to_z-of_z}
use Rattle.std.specs.Int.{w64}
use Rattle.std.specs.Prelude.{FitsSigned}
use Rattle.tx_base.specs.Signals.{bits_of}
use Rattle.tx_kernel.proofs.Delivered.{caught_plans}
use Rattle.tx_kernel.specs.Actors.{me_of}
use Rattle.tx_model.specs.SignalSets.{with_one_more}
use Rattle.tx_kernel.proofs.actor.Actor.plan_caught.Goals as goal

pub returns-clause-ok : goal.returns-clause-ok
returns-clause-ok c =
    let actor = c.args.self.now in
    let fits : FitsSigned w64 c.args.catch.value = search rules in
    let bits : bits_of c.with-blocked.result ≡ with_one_more (bit_or (me_of actor).mask (bits_of c.args.catch.mask)) c.args.signo.0
    = c.with-blocked.ensures ∙ ap (λ (set : ℕ). with_one_more set c.args.signo.0) (c.union.ensures tt) in
    caught_plans actor c.args.log.now c.push_relieved.new.log c.push.new.log c.push-2.new.log c.push_answer.new.self c.args.signo.0 c.args.catch.value _ c.args.catch.point c.args.catch.mask
    c.with-blocked.result c.in_ok-frame.frame (to_z-of_z w64 c.args.catch.value fits) c.requires.room c.in_ok-push_relieved.ensures.ok c.in_ok-push.ensures.ok c.in_ok-push-2.ensures.ok
    c.in_ok-push_answer.ensures.ok bits c.in_ok-frame.ensures
