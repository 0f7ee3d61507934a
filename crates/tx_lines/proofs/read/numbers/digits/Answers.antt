use Rattle.std.proofs.Common.{rules, get_or, refl, ap, arith}
use Rattle.std.specs.Prelude.{Some}
use Rattle.tx_lines.proofs.Digits.{short_value, digit_more, all_read, none_read, digit_among}
use Rattle.tx_lines.proofs.read.numbers.digits.Goals as goal

pub loop-byte-init : goal.loop-byte-init
loop-byte-init c = none_read c.args.word.now

pub returns-then-not-is_ascii_digit-clause-only : goal.returns-then-not-is_ascii_digit-clause-only
returns-then-not-is_ascii_digit-clause-only c digits =
    let digit = digit_among c.args.word.now c.loop-byte.byte-index _ digits c.loop-byte-test.true refl in
    absurd (search (rules, digit))

pub overflow_mul-number : goal.overflow_mul-number
overflow_mul-number c =
    let small = short_value c.args.word.now c.loop-byte.byte-index c.loop-byte.number c.loop-byte.invariant (omega arith) in
    omega (arith, small)

pub overflow_add-number : goal.overflow_add-number
overflow_add-number c =
    let small = short_value c.args.word.now c.loop-byte.byte-index c.loop-byte.number c.loop-byte.invariant (omega arith) in
    search (rules, small)

pub loop-byte-preserved : goal.loop-byte-preserved
loop-byte-preserved c =
    digit_more c.args.word.now c.loop-byte.byte-index c.loop-byte.number (get_or c.args.word.now c.loop-byte.byte-index 0) c.from.result c.loop-byte-test.true refl
    (search rules) (search rules) c.loop-byte.invariant

pub returns-clause-found : goal.returns-clause-found
returns-clause-found c = all_read c.args.word.now c.loop-byte.byte-index c.loop-byte.number c.loop-byte.invariant c.loop-byte-test.false

pub returns-clause-only : goal.returns-clause-only
returns-clause-only c digits = ap Some (all_read c.args.word.now c.loop-byte.byte-index c.loop-byte.number c.loop-byte.invariant c.loop-byte-test.false).1
