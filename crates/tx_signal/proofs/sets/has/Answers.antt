use Rattle.std.proofs.Common.{◌<◌, ◌^◌, arith, ◌∙◌}
use Rattle.tx_signal.proofs.SetFacts.{contains-single, not_in_set}
use Rattle.tx_signal.proofs.sets.has.Goals as goal

pub returns-then-signo-lt64 : goal.returns-then-signo-lt64
returns-then-signo-lt64 c =
    let same = contains-single c.args.set.0 c.args.signo.0 in
    let one = c.single.ensures in
    let asked = c.contains.ensures tt in
    rw one at asked ∙ same

pub returns-else-signo-lt64 : goal.returns-else-signo-lt64
returns-else-signo-lt64 c =
    let fits : c.args.set.0 < 2 ^ 64 = omega arith in
    let absent = not_in_set c.args.set.0 c.args.signo.0 fits c.if-signo-lt64.false in
    grind arith
