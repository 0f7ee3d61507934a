use Rattle.std.proofs.Common.{◌<◌, refl, arith}
use Rattle.tx_lines.proofs.Leading.{same_front, two_front}
use Rattle.tx_lines.proofs.read.leading.split_two.Goals as goal

pub returns-then-are_digits-clause-found : goal.returns-then-are_digits-clause-found
returns-then-are_digits-clause-found c =
    let digits = c.if-are_digits.ensures.0 refl in
    two_front c.args.line.now c.from.result c.if-line-gt2.true c.if-line-eq32.true c.if-line-gt48.true digits.0 digits.1 c.from.ensures

pub returns-then-are_digits-clause-only : goal.returns-then-are_digits-clause-only
returns-then-are_digits-clause-only c n rest some small e =
    let digits = c.if-are_digits.ensures.0 refl in
    let few : c.from.result < 256 = omega (arith, c.from.ensures, digits.0.1, digits.1.1) in
    same_front c.args.line.now c.from.result n _ rest (omega (arith, few)) small (returns-then-are_digits-clause-found c) e
