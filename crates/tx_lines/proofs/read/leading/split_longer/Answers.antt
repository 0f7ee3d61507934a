use Rattle.std.proofs.Common.{◌∙◌, ◌+◌, ◌∷◌, ◌++◌, List, ℕ, refl, ap, sym, arith}
use Rattle.std.specs.Fmt.{decimal}
use Rattle.tx_lines.proofs.Digits.{spelled_length}
use Rattle.tx_lines.proofs.Leading.{all_left, same_rest, same_value, spelled_front, value_small, zero_front}
use Rattle.tx_lines.proofs.read.leading.split_longer.Goals as goal

pub returns-then-count-eq0-clause-only : goal.returns-then-count-eq0-clause-only
returns-then-count-eq0-clause-only c n rest large small e =
    let at = c.in_ok-number.ensures.only n rest small e in
    absurd (omega (arith, at, c.if-count-eq0.true, (spelled_length (decimal n) n small refl).0))

pub returns-then-line-eq48-clause-only : goal.returns-then-line-eq48-clause-only
returns-then-line-eq48-clause-only c n rest large small e =
    absurd (omega (arith, large, zero_front c.args.line.now n rest small e c.if-line-eq48.true))

pub returns-clause-found : goal.returns-clause-found
returns-clause-found c =
    let count = c.in_ok-number.count in
    spelled_front c.args.line.now count c.in_ok-number.number c.in_ok-number.ensures.digits c.in_ok-number.ensures.value (omega (arith, c.if-count-eq0.false)) c.in_ok-number.ensures.few
    c.in_ok-number.ensures.inside c.in_ok-number.ensures.space c.if-line-eq48.false
    ∙ ap (λ (bytes : List ℕ). decimal c.in_ok-number.number ++ 32 ∷ bytes) (sym (all_left c.args.line.now (count + 1)))

pub returns-clause-only : goal.returns-clause-only
returns-clause-only c n rest large small e =
    let at = c.in_ok-number.ensures.only n rest small e in (
      same_value c.args.line.now n rest small e c.in_ok-number.count c.in_ok-number.number at c.in_ok-number.ensures.value,
      all_left c.args.line.now (c.in_ok-number.count + 1) ∙ same_rest c.args.line.now n rest small e c.in_ok-number.count at,
    )

pub returns-clause-fits : goal.returns-clause-fits
returns-clause-fits c =
    omega (arith, c.in_ok-number.ensures.value, value_small c.args.line.now c.in_ok-number.count c.in_ok-number.ensures.digits c.in_ok-number.ensures.few)
