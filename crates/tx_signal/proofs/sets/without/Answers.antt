use Rattle.std.proofs.Common.{◌<◌, ◌^◌, arith, ◌∙◌}
use Rattle.tx_signal.proofs.SetFacts.{without-less, without_one-above}
use Rattle.tx_signal.proofs.sets.without.Goals as goal

pub returns-then-signo-lt64 : goal.returns-then-signo-lt64
returns-then-signo-lt64 c =
    let fits : c.args.set.0 < 2 ^ 64 = omega arith in
    let one_fits : c.single.result.0 < 2 ^ 64 = omega arith in
    c.difference.ensures tt ∙ without-less c.args.set.0 c.single.result.0 fits one_fits ∙ rw c.single.ensures

pub returns-else-signo-lt64 : goal.returns-else-signo-lt64
returns-else-signo-lt64 c =
    let fits : c.args.set.0 < 2 ^ 64 = omega arith in
    without_one-above c.args.set.0 c.args.signo.0 fits c.if-signo-lt64.false
