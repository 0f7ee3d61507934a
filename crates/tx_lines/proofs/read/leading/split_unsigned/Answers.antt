use Rattle.std.proofs.Common.{rules, ◌≡◌, ◌-◌, ◌<◌, get_or, arith}
use Rattle.std.specs.Int.{IsInRange}
use Rattle.tx_lines.proofs.Leading.{digit_front, longer_front, same_front}
use Rattle.tx_lines.proofs.read.leading.split_unsigned.Goals as goal
use Rattle.tx_lines.proofs.read.leading.split_unsigned.Goals.{else-line-gt1-via-then-line-gt1+then-line-eq32+else-is_ascii_digit, else-line-gt1-via-then-line-gt1+else-line-eq32, else-line-gt1-via-else-line-gt1}

pub returns-then-is_ascii_digit-clause-found : goal.returns-then-is_ascii_digit-clause-found
returns-then-is_ascii_digit-clause-found c =
    let digit : IsInRange 48 57 (get_or c.args.line.now 0 0) = search rules in
    let number : c.from.result ≡ get_or c.args.line.now 0 0 - 48 = search rules in
    digit_front c.args.line.now c.from.result c.if-line-gt1.true c.if-line-eq32.true digit number

pub returns-then-is_ascii_digit-clause-only : goal.returns-then-is_ascii_digit-clause-only
returns-then-is_ascii_digit-clause-only c n rest small e =
    let few : c.from.result < 256 = search rules in
    same_front c.args.line.now c.from.result n _ rest (omega arith) small (returns-then-is_ascii_digit-clause-found c) e

pub returns-clause-only : goal.returns-clause-only
returns-clause-only c n rest small e =
    c.split_two.ensures.only n rest (longer_front c.args.line.now n rest e (λ within here digit.
    elim c.else-line-gt1.branch [
      | else-line-gt1-via-then-line-gt1+then-line-eq32+else-is_ascii_digit w ↦ search (rules, digit, w)
      | else-line-gt1-via-then-line-gt1+else-line-eq32 w ↦ w.if-line-eq32.false here
      | else-line-gt1-via-else-line-gt1 w ↦ omega (arith, within, w.if-line-gt1.false)
    ])) small e
