use Rattle.std.proofs.Common.{◌≡◌, ◌<◌, ◌^◌, ℕ, ap, ◌∙◌, arith, bit_and}
use Rattle.bitflags.specs.Sets.{without}
use Rattle.bitflags.proofs.OnLiterals.{bitflags_on_literals}
use Rattle.tx_signal.proofs.SetFacts.{without-maskable}
use Rattle.tx_signal.proofs.sets.maskable.Goals as goal

pub returns : goal.returns
unfolding bitflags_on_literals
returns c =
    let fits : c.args.set.0 < 2 ^ 64 = omega arith in
    let known : c.all.result.0 ≡ 1095216854606 = c.all.ensures tt in
    let within = c.intersection.ensures tt ∙ ap (λ (n : ℕ). bit_and c.args.set.0 n) known in
    c.difference.ensures tt ∙ ap (λ (n : ℕ). without 64 n 512) within ∙ without-maskable c.args.set.0 fits
