use Rattle.std.proofs.Common.{rules, ◌≡◌, ◌<◌, ap, sym, ◌∙◌, length, arith}
use Rattle.std.proofs.lemmas.Option.{IfSome_then}
use Rattle.std.specs.Prelude.{Some}
use Rattle.tx_lines.proofs.Digits.{spelled_length, spelled_zero, spelled_digits, spelled_by_digits, one_zero, one_byte}
use Rattle.tx_lines.proofs.read.numbers.unsigned.Goals as goal

pub returns-then-is_empty-clause-only : goal.returns-then-is_empty-clause-only
returns-then-is_empty-clause-only c n small e =
    let none : length c.args.word.now ≡ 0 = search rules in
    absurd (omega (arith, (spelled_length c.args.word.now n small e).0))

pub returns-then-word-gt-DIGITS-clause-only : goal.returns-then-word-gt-DIGITS-clause-only
returns-then-word-gt-DIGITS-clause-only c n small e = absurd (omega (arith, (spelled_length c.args.word.now n small e).1))

pub returns-then-word-eq1-clause-found : goal.returns-then-word-eq1-clause-found
returns-then-word-eq1-clause-found c = one_zero c.args.word.now c.if-word-eq1.true c.if-word-eq48.true

pub returns-then-word-eq1-clause-only : goal.returns-then-word-eq1-clause-only
returns-then-word-eq1-clause-only c n small e = ap Some (sym (spelled_zero c.args.word.now n small e c.if-word-eq48.true))

pub returns-else-word-eq1-clause-only : goal.returns-else-word-eq1-clause-only
returns-else-word-eq1-clause-only c n small e =
    absurd (c.if-word-eq1.false (one_byte c.args.word.now n small e c.if-word-eq48.true))

pub returns-clause-found : goal.returns-clause-found
returns-clause-found c =
    let some : 0 < length c.args.word.now = search rules in
    IfSome_then c.digits.result c.digits.ensures.found (λ n read. spelled_by_digits c.args.word.now n read.0 read.1 some c.if-word-gt-DIGITS.false c.if-word-eq48.false)

pub returns-clause-only : goal.returns-clause-only
returns-clause-only c n small e =
    let read = spelled_digits c.args.word.now n small e in
    c.digits.ensures.only read.0 ∙ ap Some read.1
