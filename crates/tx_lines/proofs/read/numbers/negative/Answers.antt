use Rattle.std.proofs.Common.{◌≡◌, ap, arith, Some, ◌+◌}
use Rattle.std.proofs.lemmas.Int.{ints}
use Rattle.tx_lines.proofs.Digits.{spelled_negative}
use Rattle.tx_lines.proofs.read.numbers.negative.Goals as goal

pub returns-in_err-magnitude-clause-only : goal.returns-in_err-magnitude-clause-only
returns-in_err-magnitude-clause-only c z fits e =
    let read = spelled_negative c.args.word.now z fits e in
    let none = c.in_err-magnitude.ensures.only (read.0 + 1) (omega (arith, read.1)) read.3 in
    cc none

pub returns-then-magnitude-eq0-clause-only : goal.returns-then-magnitude-eq0-clause-only
returns-then-magnitude-eq0-clause-only c z fits e =
    let read = spelled_negative c.args.word.now z fits e in
    let some = c.in_ok-magnitude.ensures.only (read.0 + 1) (omega (arith, read.1)) read.3 in
    let same : c.in_ok-magnitude.magnitude ≡ read.0 + 1 = cc in
    absurd (omega (arith, same))

pub returns-then-magnitude-unsigned_abs-clause-only : goal.returns-then-magnitude-unsigned_abs-clause-only
returns-then-magnitude-unsigned_abs-clause-only c z fits e =
    let read = spelled_negative c.args.word.now z fits e in
    let some = c.in_ok-magnitude.ensures.only (read.0 + 1) (omega (arith, read.1)) read.3 in
    let same : c.in_ok-magnitude.magnitude ≡ read.0 + 1 = cc in
    absurd (omega (arith, same))

pub returns-clause-only : goal.returns-clause-only
returns-clause-only c z fits e =
    let read = spelled_negative c.args.word.now z fits e in
    let some = c.in_ok-magnitude.ensures.only (read.0 + 1) (omega (arith, read.1)) read.3 in
    let same : c.in_ok-magnitude.magnitude ≡ read.0 + 1 = cc in
    ap Some (omega (arith, ints, read.2, same))
