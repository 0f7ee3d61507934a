use Rattle.std.proofs.Common.{rules, get_or, refl, arith}
use Rattle.std.specs.Fmt.{decimal}
use Rattle.tx_lines.proofs.Digits.{digit_more, none_read, short_value, spelled_length}
use Rattle.tx_lines.proofs.Leading.{digit_before, is_before_space, is_that_space, not_past, space_inside}
use Rattle.tx_lines.proofs.read.leading.digits_before_space.Goals as goal

pub loop-i-init : goal.loop-i-init
loop-i-init c = (none_read c.args.line.now, omega arith)

pub returns-then-byte-eq32-clause-few : goal.returns-then-byte-eq32-clause-few
returns-then-byte-eq32-clause-few c = omega (arith, c.loop-i.invariant.1)

pub returns-then-byte-eq32-clause-only : goal.returns-then-byte-eq32-clause-only
returns-then-byte-eq32-clause-only c n rest small e =
    is_that_space c.args.line.now n rest small e c.loop-i.i c.loop-i.invariant.0.digits c.loop-i-test.true c.if-byte-eq32.true

pub returns-then-i-eq-DIGITS-clause-only : goal.returns-then-i-eq-DIGITS-clause-only
returns-then-i-eq-DIGITS-clause-only c n rest small e =
    let before = is_before_space c.args.line.now n rest small e c.loop-i.i c.loop-i.invariant.0.digits c.loop-i-test.true c.if-byte-eq32.false in
    absurd (omega (arith, before, c.if-i-eq-DIGITS.true, (spelled_length (decimal n) n small refl).1))

pub returns-then-not-is_ascii_digit-clause-only : goal.returns-then-not-is_ascii_digit-clause-only
returns-then-not-is_ascii_digit-clause-only c n rest small e =
    let before = is_before_space c.args.line.now n rest small e c.loop-i.i c.loop-i.invariant.0.digits c.loop-i-test.true c.if-byte-eq32.false in
    let digit = digit_before c.args.line.now n rest small e c.loop-i.i before in
    absurd (search (rules, digit))

pub returns-clause-only : goal.returns-clause-only
returns-clause-only c n rest small e =
    let past = not_past c.args.line.now n rest small e c.loop-i.i c.loop-i.invariant.0.digits c.loop-i.auto.i-end in
    absurd (omega (arith, past, space_inside c.args.line.now n rest small e, c.loop-i-test.false))

pub overflow_mul-number : goal.overflow_mul-number
overflow_mul-number c =
    let small = short_value c.args.line.now c.loop-i.i c.loop-i.number c.loop-i.invariant.0 (omega (arith, c.loop-i.invariant.1, c.if-i-eq-DIGITS.false)) in
    omega (arith, small)

pub overflow_add-number : goal.overflow_add-number
overflow_add-number c =
    let small = short_value c.args.line.now c.loop-i.i c.loop-i.number c.loop-i.invariant.0 (omega (arith, c.loop-i.invariant.1, c.if-i-eq-DIGITS.false)) in
    search (rules, small)

pub loop-i-preserved : goal.loop-i-preserved
loop-i-preserved c = (
  digit_more c.args.line.now c.loop-i.i c.loop-i.number (get_or c.args.line.now c.loop-i.i 0) c.from.result c.loop-i-test.true refl
      (search rules) (search rules) c.loop-i.invariant.0,
  omega (arith, c.loop-i.invariant.1, c.if-i-eq-DIGITS.false),
)
